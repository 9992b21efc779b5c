-- From here on it is not there.
use Rattle.std.proofs.Common.{◌≡◌, ◌≤◌, ◌<◌, ℕ, length, get_or}
use Rattle.watch_index.proofs.index.place_near.Given as goal

abbrev pub invariant-entries : goal.invariant-entries
invariant-entries l = record {
  within : l.at ≤ length l.list;
  none : (k : ℕ) → l.at ≤ k → k < length l.list → get_or l.list k 0 ≡ l.number → ⊥;
}

abbrev pub decreases-entries : goal.decreases-entries
decreases-entries l = l.at
