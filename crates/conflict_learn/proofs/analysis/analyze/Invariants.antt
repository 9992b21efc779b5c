-- How far the analysis has come down.
use Rattle.std.proofs.Common.{◌≡◌, ◌<◌, ◌≤◌, ℕ, length}
use Rattle.conflict_learn.specs.Points.{HasTwo}
use Rattle.conflict_learn.specs.Analyses.{HasComeTo}
use Rattle.conflict_learn.proofs.analysis.analyze.Given as goal

abbrev pub invariant-places : goal.invariant-places
invariant-places l = record {
  there : l.at ≤ length l.trail.literals;
  size : length l.analysis.seen.marks.items ≡ l.trail.vars;
  come : HasComeTo (record { table = l.table; log = l.log; trail = l.trail; clash = l.fn.clash }) l.level l.at l.analysis;
  above : (k : ℕ) → l.at < k → k ≤ length l.trail.literals → HasTwo (record { table = l.table; log = l.log; trail = l.trail; clash = l.fn.clash }) l.level k;
  few : l.analysis.seen.many ≤ l.at;
}

abbrev pub decreases-places : goal.decreases-places
decreases-places l = l.at
