-- Between the two are the places that were not looked at.
use Rattle.std.proofs.Common.{◌≡◌, ◌<◌, ◌≤◌, ◌-◌, ℕ, length, get_or}
use Rattle.conflict_learn.proofs.dropping.fixed_len.Given as goal

abbrev pub invariant-halves : goal.invariant-halves
invariant-halves l = record {
  ordered : l.low ≤ l.high;
  within : l.high ≤ length l.trail.literals;
  fixed : (p : ℕ) → p < l.low → get_or l.trail.levels p 0 ≡ 0;
  others : (p : ℕ) → l.high ≤ p → p < length l.trail.literals → 0 < get_or l.trail.levels p 0;
}

abbrev pub decreases-halves : goal.decreases-halves
decreases-halves l = l.high - l.low
