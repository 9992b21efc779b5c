-- When two theories agree on shared terms. Source: Nelson and Oppen, Simplification by Cooperating Decision Procedures,
-- TOPLAS 1979.
use Rattle.std.specs.Prelude.{◌≡◌, ◌≢◌, ◌↔◌, ◌⊎◌, ◌<◌, ◌++◌, ℕ, List, [], length, All, Contains}
use Rattle.std.specs.List.{AllAdjacentBelow}
use Rattle.term_core.specs.declared.ids.TermId.{TermId}
use Rattle.delta_num.specs.Meant.{delta}
use Rattle.agreement.specs.declared.agreeing.Shared.{Shared}
use Rattle.agreement.specs.declared.agreeing.Agreement.{Agreement}
use Rattle.agreement.specs.declared.agreeing.Agreement.TheVariants.{Agreed, Pairs}

-- both theories say the same of two terms: they are of one class exactly where they have one value
abbrev pub Concur : Shared → Shared → Type 0
Concur x y = (x.class ≡ y.class) ↔ (delta x.value ≡ delta y.value)

-- one theory says that two terms are equal, and the other that they are not
abbrev pub Clash : Shared → Shared → Type 0
Clash x y =
    ((x.class ≡ y.class) × (delta x.value ≢ delta y.value))
    ⊎ ((x.class ≢ y.class) × (delta x.value ≡ delta y.value))

-- both theories say the same of neighbours
abbrev pub NeighboursConcur : List Shared → Type 0
NeighboursConcur xs = AllAdjacentBelow Concur xs (length xs)

-- the theories agree on each two of the terms
abbrev pub Agree : List Shared → Type 0
Agree xs = (x y : Shared) → Contains xs x → Contains xs y → Concur x y

-- Two of the terms are these, and the theories do not agree on them.
pub record IsDifferingPair (xs : List Shared) (s t : TermId) : Type 0 where
  -- what is stated of the first
  pub one : Shared
  pub one_in : Contains xs one
  pub one_is : s ≡ one.term
  -- and of the second
  pub other : Shared
  pub other_in : Contains xs other
  pub other_is : t ≡ other.term
  -- that does not go together
  pub clash : Clash one other

-- the theories do not agree on each of these pairs
abbrev pub ArePairs : List Shared → List (TermId × TermId) → Type 0
ArePairs xs ps = All (λ (p : TermId × TermId). IsDifferingPair xs p.0 p.1) ps

-- Pairs came on which the theories do not agree.
pub record HasPairs (xs : List Shared) (old new : List (TermId × TermId)) : Type 0 where
  -- these came
  pub more : List (TermId × TermId)
  pub is : new ≡ old ++ more
  -- the theories do not agree on them
  pub are : ArePairs xs more

-- Pairs came for all neighbours before a place on which the theories do not agree.
pub record HasClashesBelow (xs : List Shared) (n : ℕ) (old new : List (TermId × TermId)) : Type 0 where
  -- these came
  pub more : List (TermId × TermId)
  pub is : new ≡ old ++ more
  -- the theories do not agree on them
  pub are : ArePairs xs more
  -- and none came only where they agree on all those neighbours
  pub none : more ≡ [] → AllAdjacentBelow Concur xs n

-- so they did for all neighbours
abbrev pub HasClashes : List Shared → (old new : List (TermId × TermId)) → Type 0
HasClashes xs old new = HasClashesBelow xs (length xs) old new

-- the answer is right: the theories agree on the terms, or not on these pairs, of which there is one
abbrev pub IsAgreementOn : List Shared → Agreement → Type 0
IsAgreementOn xs Agreed = Agree xs
IsAgreementOn xs (Pairs ps) = ArePairs xs ps.items × (0 < length ps.items)
