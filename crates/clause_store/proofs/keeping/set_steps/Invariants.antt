-- The clauses up to here have their steps.
use Rattle.std.proofs.Common.{◌≡◌, ◌<◌, ℕ, get_or, Some, None}
use Rattle.proof_log.specs.declared.premises.StepId.{StepId}
use Rattle.clause_store.specs.Stores.{no_step}
use Rattle.clause_store.specs.Entries.{clauses_of, steps_of}
use Rattle.clause_store.proofs.keeping.set_steps.Given as goal

abbrev pub invariant-entries : goal.invariant-entries
invariant-entries l = record {
  clauses : clauses_of l.entries.items ≡ clauses_of l.fn.entries.items;
  given : (j : ℕ) (s : StepId) → j < l.at → get_or l.kept j None ≡ Some s → get_or (steps_of l.entries.items) j no_step ≡ s;
}
