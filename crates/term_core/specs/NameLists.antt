-- Lists of different things, and lists of names.
use Rattle.std.specs.Prelude.{◌≡◌, ℕ, ◌<◌, List, [], length, slice_index_or}
use Rattle.spec_text.specs.Bytes.{Name}

-- different numbers are of different items; none is what no number is of
abbrev pub AreApart : {T : Type 0} → T → List T → Type 0
AreApart none xs = (i j : ℕ) → i < length xs → j < length xs → slice_index_or xs i none ≡ slice_index_or xs j none
    → i ≡ j

-- no name occurs twice
abbrev pub HaveNoTwice : List Name → Type 0
HaveNoTwice ns = AreApart [] ns
