-- Rows of bytes that stand in one list, by where each of them ends.
use Rattle.std.specs.Prelude.{◌≡◌, ◌≤◌, ℕ, zero, suc, List, [], ◌∷◌, slice_range}

-- the rows that end at these places, the first of which begins at a place
abbrev pub rows_from : List ℕ → ℕ → List ℕ → List (List ℕ)
rows_from bytes from [] = []
rows_from bytes from (e ∷ es) = slice_range bytes from e ∷ rows_from bytes e es

-- where a row begins, by its place from 0: where the one before it ends
abbrev pub begin_of : ℕ → List ℕ → ℕ → ℕ
begin_of from [] k = from
begin_of from (e ∷ es) zero = from
begin_of from (e ∷ es) (suc k) = begin_of e es k

-- each row ends where it begins or later, and the last one where the bytes do
abbrev pub AreEnds : ℕ → List ℕ → ℕ → Type 0
AreEnds from [] n = from ≡ n
AreEnds from (e ∷ es) n = (from ≤ e) × AreEnds e es n
