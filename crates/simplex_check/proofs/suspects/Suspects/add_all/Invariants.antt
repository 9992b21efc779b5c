use Rattle.std.proofs.Common.{◌≡◌, ℕ, true, length}
use Rattle.std.specs.Prelude.{◌⊎◌}
use Rattle.simplex_check.specs.Changes.{is_changed}
use Rattle.simplex_check.specs.Suspects.{is_among}
use Rattle.simplex_check.proofs.suspects.Suspects.add_all.Given as goal

abbrev pub invariant-loop-change : goal.invariant-loop-change
invariant-loop-change l = record {
  kept : (z : ℕ) → is_among z l.fn.self ≡ true → is_among z l.self ≡ true;
  noted : (z : ℕ) → is_changed z l.fn.changes ≡ true → (is_changed z l.rest ≡ true) ⊎ (is_among z l.self ≡ true);
}

abbrev pub decreases-loop-change : goal.decreases-loop-change
decreases-loop-change l = length l.rest
