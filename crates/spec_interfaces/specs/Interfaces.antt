-- Interface equalities: of numbers that functions and linear arithmetic share, and of elements that a disjunction leads
-- to. Learned clauses speak of the former alone. Source: Nelson and Oppen, Simplification by Cooperating Decision
-- Procedures, TOPLAS 1979, for numbers; that others come is own.
use Rattle.std.specs.Prelude.{◌≡◌, ◌⊎◌, Bool, false, List, ◌++◌, All, Contains}
use Rattle.std.specs.List.{filter}
use Rattle.spec_text.specs.Bytes.{Name}
use Rattle.spec_sorts.specs.Terms.{Number, Declared, Equal, Term, app, cons, pair, same_sort, sort_of}
use Rattle.spec_sorts.specs.Literals.{Literal}
use Rattle.spec_derivations.specs.Problems.{Problem, subterms_in}
use Rattle.spec_derivations.specs.Spent.{IsOverAtoms}
use Rattle.spec_causes.specs.Shared.{IsSharedEquality}

-- It is an equality of two of these terms, which are elements of a declared sort.
pub record IsElementEquality (ts : List Term) (u : Term) : Type 0 where
  -- one of them
  pub left : Term
  pub left_in : Contains ts left
  -- and the other
  pub right : Term
  pub right_in : Contains ts right
  -- both are of the sort
  pub sort : Name
  pub left_sort : sort_of left ≡ Declared sort
  pub right_sort : sort_of right ≡ Declared sort
  -- it is made of these
  pub is : u ≡ pair Equal left right

-- a search may speak of the equality: it is one of numbers that are shared among terms, or of elements
abbrev pub IsInterfaceEquality : List Term → Term → Type 0
IsInterfaceEquality ts u = IsSharedEquality ts u ⊎ IsElementEquality ts u

-- so it may of each of the problem's, over the subterms of its terms
abbrev pub AreInterfaceEqualities : Problem → Type 0
AreInterfaceEqualities p = All (IsInterfaceEquality (subterms_in p)) p.interface

-- the problem with more of them
abbrev pub speaking_of : Problem → List Term → Problem
speaking_of p more = record { asserted = p.asserted; assumed = p.assumed; interface = p.interface ++ more }

-- the term is an equality of numbers
abbrev pub is_of_numbers : Term → Bool
is_of_numbers (app Equal (cons s ts)) = same_sort Number (sort_of s)
is_of_numbers t = false

-- the problem with those interface equalities alone that are of numbers
abbrev pub numbers_alone : Problem → Problem
numbers_alone p = record { asserted = p.asserted; assumed = p.assumed; interface = filter is_of_numbers p.interface }

-- the literals of the clause are over atoms of the check's terms and of equalities of numbers: none is of an equality
-- of elements that came beside the terms
abbrev pub StandsApart : Problem → List Literal → Type 0
StandsApart p clause = IsOverAtoms (numbers_alone p) clause
