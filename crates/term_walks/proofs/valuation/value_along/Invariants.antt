-- What is known of the first terms of the order.
use Rattle.std.proofs.Common.{◌≡◌, length, All}
use Rattle.spec_sorts.specs.Values.{Interpretation}
use Rattle.term_walks.specs.Valuations.{Tells}
use Rattle.term_walks.specs.KnownValues.{IsKnownNamed, AreKnownValues}
use Rattle.term_walks.proofs.valuation.value_along.Given as goal

abbrev pub invariant-terms : goal.invariant-terms
invariant-terms l = record {
  long : length l.known.items ≡ l.at;
  named : All (IsKnownNamed l.fn.table.sorts) l.known.items;
  so_far : (i : Interpretation) → Tells l.fn.table l.fn.interp i → AreKnownValues l.fn.table i l.order l.known.items;
}
