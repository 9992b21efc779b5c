-- No later place is marked.
use Rattle.std.proofs.Common.{◌≤◌, ◌<◌, ℕ}
use Rattle.conflict_learn.specs.Analyses.{IsMarkedAt}
use Rattle.conflict_learn.proofs.analysis.newest_before.Given as goal

abbrev pub invariant-places : goal.invariant-places
invariant-places l = (p : ℕ) → l.at ≤ p → p < l.place → IsMarkedAt l.trail l.marks p → ⊥
