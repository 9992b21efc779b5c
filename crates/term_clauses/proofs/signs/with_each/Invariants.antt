-- The clause has the arguments up to here.
use Rattle.std.proofs.Common.{◌≡◌, ◌∷◌, map, take}
use Rattle.spec_sorts.specs.Subsets.{arguments_of}
use Rattle.spec_rules.specs.Schemes.{signed_term}
use Rattle.term_core.specs.Tables.{AreIn, term_at, clause_at}
use Rattle.term_clauses.specs.Stating.{Widens}
use Rattle.term_clauses.proofs.signs.with_each.Given as goal

abbrev pub invariant-places : goal.invariant-places
invariant-places l = record {
  wider : Widens l.fn.table l.table;
  there : AreIn l.table l.clause.items;
  same : clause_at l.table l.clause.items ≡ term_at l.fn.table l.fn.front ∷ map (signed_term l.positive) (take l.place (arguments_of (term_at l.fn.table l.id)));
}
