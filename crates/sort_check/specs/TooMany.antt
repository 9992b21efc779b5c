-- When a `distinct` has too many terms for a limit.
use Rattle.std.specs.Prelude.{◌≡◌, ℕ, ◌<◌, ◌*◌, ◌-◌, true, List, map, Some, Ok}
use Rattle.std.specs.Set.{distinct_count}
use Rattle.spec_text.specs.Bytes.{Name}
use Rattle.spec_text.specs.Answers.{Answer}
use Rattle.spec_text.specs.Trees.{Tree, Trees, list, more}
use Rattle.spec_sorts.specs.Terms.{Term, same_term, sort_of}
use Rattle.spec_sorts.specs.Theory.{look_up, theory, alike, sorts_fit}
use Rattle.spec_sorts.specs.Forms.{applies, form}
use Rattle.spec_reading.specs.Reading.{Readings}
use Rattle.term_core.specs.TheoryHeads.{rule_of}
use Rattle.term_core.specs.declared.theory_heads.TheoryHead.TheVariants.{Distinct}

-- how many different terms there are
abbrev pub different : List Term → ℕ
different ts = distinct_count same_term ts

-- the equalities of all pairs of different terms, with their negations, are more than the limit allows
abbrev pub AreTooMany : ℕ → List Term → Type 0
AreTooMany limit ts = limit < different ts * different ts - different ts

-- A text is `distinct` before others.
pub record IsDistinctOf (t : Tree) (us : Trees) : Type 0 where
  -- the offset of the list
  pub at : ℕ
  -- its head
  pub head : Tree
  -- where it ends
  pub end : ℕ
  -- it is that list
  pub is : t ≡ list at (more head us) end
  -- the offset of the name
  pub place : ℕ
  -- the name
  pub name : Name
  -- it stands before the others
  pub applied : form head us ≡ applies place name
  -- it is that of `distinct`
  pub rule : look_up theory name ≡ Some (rule_of Distinct)

-- The texts are read as terms of one sort, which are too many.
pub record HasTooMany (limit : ℕ) (answer : Answer Readings) : Type 0 where
  -- what they are read as
  pub readings : Readings
  -- they are that
  pub read : answer ≡ Ok readings
  -- the terms have one sort
  pub alike : sorts_fit alike (map sort_of readings.terms) ≡ true
  -- they are too many
  pub many : AreTooMany limit readings.terms
