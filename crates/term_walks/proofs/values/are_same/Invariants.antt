-- What is left of both lists answers for the whole.
use Rattle.std.proofs.Common.{◌≡◌, List, length, drop}
use Rattle.spec_text.specs.Bytes.{Name}
use Rattle.spec_sorts.specs.Values.{same_values}
use Rattle.term_core.specs.NameLists.{HaveNoTwice}
use Rattle.term_walks.specs.Valuations.{values_meant, AreNamed}
use Rattle.term_walks.proofs.values.are_same.Given as goal

abbrev pub invariant-values : goal.invariant-values
invariant-values l = record {
  long : length l.left ≡ length l.right;
  same : (sorts : List Name) → HaveNoTwice sorts → AreNamed sorts l.left → AreNamed sorts l.right
      → same_values (values_meant sorts (drop l.at l.left)) (values_meant sorts (drop l.at l.right)) ≡ same_values (values_meant sorts l.left) (values_meant sorts l.right);
}
