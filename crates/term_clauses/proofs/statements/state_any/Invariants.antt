-- The clauses of the arguments up to here are stated.
use Rattle.std.proofs.Common.{[], ◌∷◌, map, take}
use Rattle.spec_sorts.specs.Subsets.{arguments_of}
use Rattle.spec_rules.specs.Schemes.{signed_term}
use Rattle.term_core.specs.Tables.{term_at}
use Rattle.term_clauses.specs.Growth.{Grows}
use Rattle.term_clauses.specs.Stating.{listed_steps, Tells, before}
use Rattle.term_clauses.proofs.statements.state_any.Given as goal

abbrev pub invariant-places : goal.invariant-places
invariant-places l = record {
  grows : Grows [] l.fn.table l.table l.fn.log l.log;
  tells : Tells (listed_steps l.fn.table l.fn.log l.fn.steps.items) (listed_steps l.table l.log l.steps.items) (before (term_at l.fn.table l.front) (map (λ u. signed_term l.positive u ∷ []) (take l.place (arguments_of (term_at l.fn.table l.id)))));
}
