-- Resolution by unit propagation, over literals of any kind with a complement. Every chain passes in which each binary
-- resolution takes the last resolvent and a premise.
use Rattle.std.specs.Prelude.{◌≡◌, ◌≢◌, ◌⊎◌, List, [], ◌∷◌, map, Contains}

-- What unit propagation over the premises gives, beginning with what is assumed: a literal of a premise whose other
-- literals are all false.
pub data Derives {L : Type 0} (complement : L → L) (premises : List (List L)) (assumed : List L) : L → Type 0 where
  given : (l : L) → Contains assumed l → Derives complement premises assumed l
  unit : (c : List L) (l : L) → Contains premises c → Contains c l
      → ((m : L) → Contains c m → m ≢ l → Derives complement premises assumed (complement m))
      → Derives complement premises assumed l

-- A premise whose every literal is false, or a literal with its complement.
pub data Conflicts {L : Type 0} (complement : L → L) (premises : List (List L)) (assumed : List L) : Type 0 where
  false_clause : (c : List L) → Contains premises c
      → ((m : L) → Contains c m → Derives complement premises assumed (complement m))
      → Conflicts complement premises assumed
  both_ways : (l : L) → Derives complement premises assumed l → Derives complement premises assumed (complement l)
      → Conflicts complement premises assumed

-- unit propagation from the complement of every literal of the clause reaches a conflict
abbrev pub Resolves : {L : Type 0} → (L → L) → List (List L) → List L → Type 0
Resolves complement premises clause = Conflicts complement premises (map complement clause)

-- all that the one list has is in the other
abbrev pub IsWithin : {X : Type 0} → List X → List X → Type 0
IsWithin {X} xs ys = (x : X) → Contains xs x → Contains ys x

-- A binary resolution: one clause has a literal, the other its complement, and the third has all other literals of
-- both, and maybe more.
pub record IsBinary {L : Type 0} (complement : L → L) (one other third : List L) : Type 0 where
  pub pivot : L
  pub in_one : Contains one pivot
  pub in_other : Contains other (complement pivot)
  pub rest_of_one : (l : L) → Contains one l → (l ≡ pivot) ⊎ Contains third l
  pub rest_of_other : (l : L) → Contains other l → (l ≡ complement pivot) ⊎ Contains third l

-- a chain: the clause up to here is resolved with one premise after the other, and what comes last is within the clause
abbrev pub IsChain : {L : Type 0} → (L → L) → List L → List (List L) → List L → Type 0
IsChain complement so_far [] clause = IsWithin so_far clause
IsChain {L} complement so_far (p ∷ ps) clause = (next : List L) × IsBinary complement so_far p next
    × IsChain complement next ps clause
