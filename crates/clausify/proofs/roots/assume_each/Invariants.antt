-- The terms up to here are assumed.
use Rattle.std.proofs.Common.{[], ◌∷◌, map, take}
use Rattle.term_core.specs.Tables.{clause_at}
use Rattle.term_clauses.specs.Growth.{Grows}
use Rattle.term_clauses.specs.Stating.{listed_steps, Tells}
use Rattle.clausify.proofs.roots.assume_each.Given as goal

abbrev pub invariant-roots : goal.invariant-roots
invariant-roots l = record {
  grows : Grows l.roots l.table l.table l.fn.log l.log;
  tells : Tells (listed_steps l.table l.fn.log l.fn.steps.items) (listed_steps l.table l.log l.steps.items) (map (λ t. t ∷ []) (clause_at l.table (take l.root-index l.roots)));
}
