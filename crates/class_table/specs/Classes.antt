-- Classes of terms as contracts see them: for each term, by its number, the number of its class.
use Rattle.std.specs.Prelude.{◌≡◌, ◌<◌, ◌-◌, ◌++◌, ◌==◌, ◌↔◌, ℕ, List, Contains, length, map, nat_le, slice_index}
use Rattle.std.specs.Prelude.{if◌then◌else◌}
use Rattle.std.specs.List.{count_by, range_with_len}
use Rattle.term_core.specs.declared.ids.TermId.{TermId}

-- The class numbers of the terms, now and at each mark.
pub record ClassesView : Type 0 where
  -- the class number of each term, by the term's number
  pub numbers : List ℕ
  -- what they were at each mark, whole, oldest mark first
  pub marks : List (List ℕ)

-- the number of a term's class
abbrev pub class_at : List ℕ → TermId → ℕ
class_at numbers t = slice_index numbers t.0

-- two terms are in one class
abbrev pub AreSame : List ℕ → TermId → TermId → Type 0
AreSame numbers t u = class_at numbers t ≡ class_at numbers u

-- how many terms are in the class of a number
abbrev pub members_count : List ℕ → ℕ → ℕ
members_count numbers class = count_by (λ number. number == class) numbers

-- each term of one class is in another instead
abbrev pub renumbered : ℕ → ℕ → List ℕ → List ℕ
renumbered from into numbers = map (λ number. if number == from then into else number) numbers

-- the classes of two terms are one, of which the smaller was renumbered, and the first one's where they are as large
abbrev pub joined : TermId → TermId → List ℕ → List ℕ
joined a b numbers =
    let first = class_at numbers a in
    let second = class_at numbers b in
    if nat_le (members_count numbers first) (members_count numbers second)
    then renumbered first second numbers
    else renumbered second first numbers

-- there are so many terms at least: each new one is alone in the class of its own number
abbrev pub with_terms : ℕ → List ℕ → List ℕ
with_terms count numbers = numbers ++ range_with_len (length numbers) (count - length numbers)

-- Each class has the number of one of its terms.
pub record ClassesAreNumbered (numbers : List ℕ) : Type 0 where
  -- it is the number of a term
  pub low : (t : TermId) → t.0 < length numbers → class_at numbers t < length numbers
  -- which is in the class
  pub live : (t : TermId) → t.0 < length numbers → AreSame numbers (record { 0 = class_at numbers t }) t

-- The terms are those of one term's class, each once.
pub record AreMembers (numbers : List ℕ) (t : TermId) (members : List TermId) : Type 0 where
  -- a term is among them exactly where it is in the class
  pub each : (m : TermId) → Contains members m ↔ ((m.0 < length numbers) × (class_at numbers m ≡ class_at numbers t))
  -- none is there twice
  pub count : length members ≡ members_count numbers (class_at numbers t)
