-- What was taken, with what is left, gives the whole.
use Rattle.std.proofs.Common.{◌≡◌, List, drop}
use Rattle.spec_text.specs.Bytes.{Name}
use Rattle.spec_sorts.specs.BoundedValues.{folded}
use Rattle.term_walks.specs.Valuations.{value_meant, values_meant, IsNamed}
use Rattle.term_walks.specs.Operations.{operated}
use Rattle.term_walks.proofs.heads.folded.Given as goal

abbrev pub invariant-rest : goal.invariant-rest
invariant-rest l = record {
  same : (sorts : List Name) → folded (operated l.op) (value_meant sorts l.done) (values_meant sorts (drop l.value-index l.rest)) ≡ folded (operated l.op) (value_meant sorts l.fn.first) (values_meant sorts l.rest);
  named : (sorts : List Name) → IsNamed sorts l.fn.first → IsNamed sorts l.done;
}
