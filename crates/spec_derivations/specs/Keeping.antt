-- Inferences of a derivation that stay, under new numbers.
use Rattle.std.specs.Prelude.{◌≡◌, ◌<◌, ℕ, List, length, map, get_or, All}
use Rattle.spec_derivations.specs.Derivations.{Inference, «assumption», by_rule, Derivation, premises_of, inference_at}

-- the number that an inference had, where these stay, in order
abbrev pub was : List ℕ → ℕ → ℕ
was kept n = get_or kept n 0

-- an inference with the numbers that its premises had
abbrev pub back : List ℕ → Inference → Inference
back kept («assumption» t) = «assumption» t
back kept (by_rule r ps arguments c) = by_rule r (map (was kept) ps) arguments c

-- Inferences of these numbers stay, in order, as they were but for the numbers of their premises.
pub record IsKeptOf (old : Derivation) (kept : List ℕ) (new : Derivation) : Type 0 where
  -- the numbers are of the derivation's
  pub there : All (λ n. n < length old) kept
  -- later ones are greater
  pub ascending : (i j : ℕ) → i < j → j < length kept → was kept i < was kept j
  -- these are the inferences
  pub same : map (back kept) new ≡ map (inference_at old) kept
  -- the premises of each are before it
  pub earlier : (k : ℕ) → k < length new → All (λ p. p < k) (premises_of (inference_at new k))
