-- Chains of binary resolutions, and what they give and no more, over literals of any kind with a complement. Source:
-- Robinson, JACM 1965, for resolution; Tseitin 1968 for regular chains, in which no literal that was resolved on comes
-- back; Zhang, Madigan, Moskewicz and Malik, ICCAD 2001, for clauses that are learned by chains.
use Rattle.std.specs.Prelude.{◌≡◌, ◌≢◌, ◌⊎◌, ◌↔◌, Bool, List, [], ◌∷◌, map, Contains}
use Rattle.spec_sorts.specs.Terms.{Term}
use Rattle.spec_sorts.specs.Literals.{Literal, complement, literals_of}
use Rattle.spec_derivations.specs.Derivations.{Derivation, Inference, «assumption», by_rule, conclusion_at}

-- both lists have the same literals
abbrev pub HasSame : {L : Type 0} → List L → List L → Type 0
HasSame {L} xs ys = (l : L) → Contains xs l ↔ Contains ys l

-- A binary resolution, and no more: one clause has the pivot, the other its complement, and the third has exactly the
-- other literals of both.
pub record IsExactBinary {L : Type 0} (negation : L → L) (pivot : L) (one other third : List L) : Type 0 where
  -- the one has the pivot
  pub in_one : Contains one pivot
  -- the other has its complement
  pub in_other : Contains other (negation pivot)
  -- what is left of both is in the third, and nothing else
  pub rest : (l : L) → Contains third l ↔ ((Contains one l × (l ≢ pivot)) ⊎ (Contains other l × (l ≢ negation pivot)))

-- neither the literals nor their complements are in the clause
abbrev pub AreGone : {L : Type 0} → (L → L) → List L → List L → Type 0
AreGone {L} negation pivots clause = (l : L) → Contains pivots l
    → (Contains clause l → ⊥) × (Contains clause (negation l) → ⊥)

-- A chain of exact resolutions, by its pivots, newest first, and what it gives. It begins with a given clause, and
-- resolves what it has with one given clause after the other. A pivot never comes back, nor does its complement. Not
-- every given clause need be used, and one may be used again.
pub data IsExactChain {L : Type 0} (negation : L → L) (Given : List L → Type 0) : List L → List L → Type 0 where
  -- a given clause, in any order of its literals
  begin : (c clause : List L) → Given c → HasSame c clause → IsExactChain negation Given [] clause
  -- a clause more
  resolve : (pivot : L) (pivots so_far c clause : List L) → IsExactChain negation Given pivots so_far → Given c
      → IsExactBinary negation pivot so_far c clause → AreGone negation (pivot ∷ pivots) clause
      → IsExactChain negation Given (pivot ∷ pivots) clause

-- the clause is what some chain over given clauses gives
abbrev pub IsExactResolvent : {L : Type 0} → (L → L) → (List L → Type 0) → List L → Type 0
IsExactResolvent {L} negation Given clause = (pivots : List L) × IsExactChain negation Given pivots clause

-- each clause comes by a chain over given clauses and those before it
abbrev pub AreExactResolvents : {L : Type 0} → (L → L) → (List L → Type 0) → List (List L) → Type 0
AreExactResolvents negation Given [] = Unit {0}
AreExactResolvents negation Given (c ∷ cs) = IsExactResolvent negation Given c
    × AreExactResolvents negation (λ d. Given d ⊎ (d ≡ c)) cs

-- all atoms of the clause are alike under a test
abbrev pub AreAlike : (Term → Bool) → List Literal → Type 0
AreAlike test c = (l m : Literal) → Contains c l → Contains c m → test l.atom ≡ test m.atom

-- no literal of the clause is in it with its complement
abbrev pub IsNoTautology : List Literal → Type 0
IsNoTautology c = (l : Literal) → Contains c l → Contains c (complement l) → ⊥

-- an inference's clause is what a chain over the clauses of its premises gives
abbrev pub IsExactFrom : Derivation → Inference → Type 0
IsExactFrom earlier («assumption» t) = ⊥
IsExactFrom earlier (by_rule r ps arguments c) =
    IsExactResolvent complement (Contains (map literals_of (map (conclusion_at earlier) ps))) (literals_of c)
