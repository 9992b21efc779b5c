-- How far literals of level 0 were dropped.
use Rattle.std.proofs.Common.{◌≡◌, ℕ, length}
use Rattle.proof_log.specs.declared.premises.StepId.{StepId}
use Rattle.proof_log.specs.Clashes.{IsClash}
use Rattle.conflict_learn.specs.Analyses.{AreDropped}
use Rattle.conflict_learn.proofs.dropping.drop_fixed.Given as goal

abbrev pub invariant-places : goal.invariant-places
invariant-places l = record {
  size : length l.marks.items ≡ l.trail.vars;
  dropped : (clash : StepId) (from : ℕ) → IsClash l.table l.log l.trail.literals clash → AreDropped (record { table = l.table; log = l.log; trail = l.trail; clash = clash }) from (length l.trail.literals) l.fn.marks.items l.fn.premises.items
      → AreDropped (record { table = l.table; log = l.log; trail = l.trail; clash = clash }) from l.at l.marks.items l.premises.items;
}
