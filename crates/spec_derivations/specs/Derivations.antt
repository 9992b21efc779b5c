-- Derivations: rows of clauses, each of which is assumed or follows by a rule from earlier ones. Source: Alethe
-- specification, proofs as lists of commands; to number them is own.
use Rattle.std.specs.Prelude.{◌≡◌, ℕ, ◌<◌, List, [], ◌∷◌, ◌++◌, length, map, All, Contains, slice_index_or}
use Rattle.spec_sorts.specs.Terms.{True, Term, of}
use Rattle.spec_text.specs.Trees.{Trees}
use Rattle.spec_sorts.specs.Literals.{Clause}
use Rattle.spec_proofs.specs.declared.Rule.{Rule}
use Rattle.spec_rules.specs.Rules.{IsRight}

-- A clause of a derivation.
pub data Inference : Type 0 where
  -- the clause of an assumed term alone
  assumption : Term → Inference
  -- a clause that follows by a rule from the clauses of these numbers, with the texts of the rule's arguments
  by_rule : Rule → List ℕ → Trees → Clause → Inference

-- clauses by their numbers, from 0
abbrev pub Derivation : Type 0
Derivation = List Inference

-- the clause that it states
abbrev pub conclusion : Inference → Clause
conclusion (assumption t) = t ∷ []
conclusion (by_rule r ps arguments c) = c

-- the numbers of its premises
abbrev pub premises_of : Inference → List ℕ
premises_of (assumption t) = []
premises_of (by_rule r ps arguments c) = ps

-- what no number of a derivation means: that true is assumed
abbrev pub no_inference : Inference
no_inference = assumption (of True [])

-- the inference of a number
abbrev pub inference_at : Derivation → ℕ → Inference
inference_at d n = slice_index_or d n no_inference

-- the clause of a number
abbrev pub conclusion_at : Derivation → ℕ → Clause
conclusion_at d n = conclusion (inference_at d n)

-- it is assumed, or its premises are among those before it and it follows from them by its rule
abbrev pub FollowsFrom : Derivation → Inference → Type 0
FollowsFrom earlier (assumption t) = Unit {0}
FollowsFrom earlier (by_rule r ps arguments c) = All (λ n. n < length earlier) ps
    × IsRight r (map (conclusion_at earlier) ps) arguments c

-- each follows from those before it
abbrev pub IsDerivation : Derivation → Type 0
IsDerivation d = (before : Derivation) (x : Inference) (after : Derivation) → d ≡ before ++ x ∷ after
    → FollowsFrom before x

-- The clause of the first number depends on that of the second: it is the same, or one of its premises depends on it.
pub data DependsOn (d : Derivation) : ℕ → ℕ → Type 0 where
  itself : (n : ℕ) → DependsOn d n n
  by_premise : (n m k : ℕ) → Contains (premises_of (inference_at d n)) m → DependsOn d m k → DependsOn d n k

-- what it assumes, if it does, is one of these terms
abbrev pub AssumesAmong : List Term → Inference → Type 0
AssumesAmong terms (assumption t) = Contains terms t
AssumesAmong terms (by_rule r ps arguments c) = Unit {0}

-- the clause of that number is there, and each assumption that it depends on is one of these terms
pub record IsDerivedFrom (terms : List Term) (d : Derivation) (n : ℕ) : Type 0 where
  -- the number is one of the derivation's
  pub there : n < length d
  -- what it depends on
  pub assumptions : (m : ℕ) → DependsOn d n m → AssumesAmong terms (inference_at d m)
