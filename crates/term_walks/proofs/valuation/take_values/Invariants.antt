-- What is taken, with the values of what is left, is all.
use Rattle.std.proofs.Common.{◌≡◌, List, [], drop, All}
use Rattle.spec_text.specs.Bytes.{Name}
use Rattle.spec_sorts.specs.Terms.{terms_of}
use Rattle.spec_sorts.specs.Values.{Interpretation}
use Rattle.spec_sorts.specs.BoundedValues.{bounded_values}
use Rattle.term_core.specs.Tables.{TableView, clause_at}
use Rattle.term_walks.specs.Valuations.{values_meant, AreNamed}
use Rattle.term_walks.specs.KnownValues.{IsKnownNamed, AreKnownValues}
use Rattle.term_walks.proofs.Taking.{with_front}
use Rattle.term_walks.proofs.valuation.take_values.Given as goal

abbrev pub invariant-arguments : goal.invariant-arguments
invariant-arguments l = record {
  same : (t : TableView) (i : Interpretation) → AreKnownValues t i l.order l.known → with_front (values_meant t.sorts l.taken.items) (bounded_values i [] (terms_of (clause_at t (drop l.id-index l.arguments)))) ≡ bounded_values i [] (terms_of (clause_at t l.arguments));
  named : (sorts : List Name) → All (IsKnownNamed sorts) l.known → AreNamed sorts l.taken.items;
}
