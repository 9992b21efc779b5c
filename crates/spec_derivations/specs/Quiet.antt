-- Where propagation is quiet, over literals of any kind with a complement. Source: Davis, Logemann and Loveland 1962
-- for propagation.
use Rattle.std.specs.Prelude.{◌≢◌, ◌⊎◌, List, Contains}

-- nothing follows from a clause where these literals hold: one of its own holds, or two of its own are open
abbrev pub ImpliesNothing : {L : Type 0} → (L → L) → List L → List L → Type 0
ImpliesNothing {L} negation held clause = ((m : L) × Contains clause m × Contains held m)
    ⊎ ((m : L) × (n : L) × Contains clause m × Contains clause n × (m ≢ n) × (Contains held (negation m) → ⊥)
    × (Contains held (negation n) → ⊥))

-- nothing follows from any of the clauses
abbrev pub IsQuiet : {L : Type 0} → (L → L) → List (List L) → List L → Type 0
IsQuiet {L} negation clauses held = (c : List L) → Contains clauses c → ImpliesNothing negation held c

-- no literal holds with its complement
abbrev pub IsConsistent : {L : Type 0} → (L → L) → List L → Type 0
IsConsistent {L} negation held = (l : L) → Contains held l → Contains held (negation l) → ⊥

-- all literals of the clause but this one are false
abbrev pub OthersFail : {L : Type 0} → (L → L) → List L → List L → L → Type 0
OthersFail {L} negation held clause l = (m : L) → Contains clause m → m ≢ l → Contains held (negation m)
