-- None up to here is the negation.
use Rattle.std.proofs.Common.{ℕ, ◌<◌, ◌≡◌, false, get_or}
use Rattle.congruence_explain.specs.declared.claims.SignedClaim.{SignedClaim}
use Rattle.congruence_explain.specs.Claims.{value_claim}
use Rattle.congruence_explain.proofs.explaining.denies.Given as goal

abbrev pub invariant-claims : goal.invariant-claims
invariant-claims l = (k : ℕ) (d : SignedClaim) → k < l.s-index → get_or l.stated k d ≡ value_claim l.e false → ⊥
