-- Numbers that are counted.
use Rattle.std.specs.Prelude.{◌≡◌, ◌⊎◌, ◌++◌, List, Contains}
use Rattle.term_core.specs.declared.ids.TermId.{TermId}
use Rattle.term_core.specs.NameLists.{AreApart}

-- what no number of numbers means
abbrev pub no_number : TermId
no_number = record { 0 = 0 }

-- no number occurs twice
abbrev pub AreNumbersOnce : List TermId → Type 0
AreNumbersOnce ids = AreApart no_number ids

-- Numbers that came into a list, each once.
pub record AddsOnce (old ids new : List TermId) : Type 0 where
  -- those that came
  pub more : List TermId
  -- they come after those that were there
  pub kept : new ≡ old ++ more
  -- each of them is there
  pub there : (id : TermId) → Contains ids id → Contains new id
  -- and no others came
  pub no_others : (id : TermId) → Contains new id → Contains old id ⊎ Contains ids id
  -- none occurs twice, where none did
  pub once : AreNumbersOnce old → AreNumbersOnce new
