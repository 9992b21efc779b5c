-- Lemmas of a theory: inferences that depend on each other alone, over terms that a search speaks of. Source:
-- Nieuwenhuis, Oliveras and Tinelli, Solving SAT and SAT modulo theories, JACM 2006; which terms they may be over is
-- own.
use Rattle.std.specs.Prelude.{◌≡◌, ◌⊎◌, ℕ, ◌≤◌, ◌<◌, List, [], length, All, Contains}
use Rattle.spec_sorts.specs.Terms.{True, False, Equal, Term, of, pair, negated}
use Rattle.spec_sorts.specs.Literals.{Literal, literals_of}
use Rattle.spec_derivations.specs.Derivations.{Inference, «assumption», by_rule, Derivation, inference_at}
use Rattle.spec_derivations.specs.Derivations.{conclusion_at, premises_of}
use Rattle.spec_derivations.specs.ExactChains.{IsExactFrom}

-- Terms that are made of some, by the truth values, equalities and negations.
pub data IsMadeOf (ts : List Term) : Term → Type 0 where
  -- one of these
  given : (t : Term) → Contains ts t → IsMadeOf ts t
  -- the truth values
  is_true : IsMadeOf ts (of True [])
  is_false : IsMadeOf ts (of False [])
  -- an equality
  is_equality : (t u : Term) → IsMadeOf ts t → IsMadeOf ts u → IsMadeOf ts (pair Equal t u)
  -- a negation
  is_negation : (t : Term) → IsMadeOf ts t → IsMadeOf ts (negated t)

-- it has no premises, or its clause is what a chain of resolutions over theirs gives, and no more
abbrev pub TakesNoMore : Derivation → Inference → Type 0
TakesNoMore d x = (premises_of x ≡ []) ⊎ IsExactFrom d x

-- it is no assumption, its premises are of a derivation and have numbers from one on, the terms of its clause are made
-- of these, and it takes no more literals than it needs
abbrev pub IsLemma : List Term → Derivation → ℕ → Inference → Type 0
IsLemma ts d n («assumption» t) = ⊥
IsLemma ts d n (by_rule r ps arguments c) = All (λ m. (n ≤ m) × (m < length d)) ps × All (IsMadeOf ts) c
    × TakesNoMore d (by_rule r ps arguments c)

-- A derivation has a lemma of this clause over some terms. It is one of a batch of inferences that depend on each other
-- alone, each of them a lemma.
pub record HasLemma (ts : List Term) (d : Derivation) (c : List Literal) : Type 0 where
  -- the number of its inference
  pub number : ℕ
  pub there : number < length d
  -- the batch begins at this one
  pub since : ℕ
  pub begun : since ≤ number
  -- each up to it is a lemma, whose premises are of the batch
  pub batch : (n : ℕ) → since ≤ n → n ≤ number → IsLemma ts d since (inference_at d n)
  -- its clause has these literals
  pub same : literals_of (conclusion_at d number) ≡ c
