-- Where a search over equality and functions is saturated, and one over linear arithmetic as well. Source: Nelson
-- and Oppen 1979; Tseitin 1968.
use Rattle.std.specs.Prelude.{◌≡◌, ◌≢◌, ◌↔◌, ℕ, true, List, All, Contains}
use Rattle.std.specs.List.{list_any}
use Rattle.spec_numbers.specs.Fractions.{Fraction, IsReduced}
use Rattle.spec_sorts.specs.Terms.{Truth, Number, Symbol, Term, sort_of}
use Rattle.spec_sorts.specs.WellSorted.{IsFormulaOver}
use Rattle.spec_sorts.specs.Subsets.{AreAmong}
use Rattle.spec_sorts.specs.Literals.{Clause, Literal, literal_of}
use Rattle.spec_equality.specs.Congruence.{signed_literal, IsCongruent, IsFine}
use Rattle.spec_arithmetic.specs.Numbers.{number_at, IsLinear}
use Rattle.spec_simplex.specs.Numbers.{HoldsAt}
use Rattle.spec_rules.specs.Truths.{Truths, term_true_by}
use Rattle.spec_derivations.specs.Problems.{Problem, known_terms}
use Rattle.spec_derivations.specs.Base.{search_terms, search_clauses}
use Rattle.spec_derivations.specs.Orders.{whole_terms, whole_clauses}
use Rattle.spec_valuations.specs.Tables.{Valuation}
use Rattle.spec_valuations.specs.Classes.{value_by, AreShared, Agrees}

-- What a search over equality and functions has where it is saturated.
pub record Saturated (symbols : List Symbol) (p : Problem) (terms : List Term) (held : List Literal) (v : Truths)
    (class : Term → ℕ) : Type 0 where
  -- the terms of the check are formulas over the symbols, and so are the interface equalities
  pub formulas : All (IsFormulaOver symbols) (known_terms p)
  -- all terms that the search speaks of are listed
  pub listed : AreAmong (search_terms p) terms
  -- and no others
  pub only : AreAmong terms (search_terms p)
  -- none of them is a number
  pub no_numbers : (t : Term) → Contains terms t → sort_of t ≢ Number
  -- one term of each clause is true
  pub met : (c : Clause) → Contains (search_clauses p) c → list_any (term_true_by v) c ≡ true
  -- each term of sort Bool that is no negation is held with its truth
  pub truths : (t : Term) → Contains terms t → sort_of t ≡ Truth → literal_of t ≡ signed_literal t true
      → Contains held (signed_literal t (v t))
  -- what is held joins neither the truth values nor sides that are held apart
  pub fine : IsFine terms held
  -- classes tell which listed terms it makes equal
  pub classes : (t u : Term) → Contains terms t → Contains terms u → (class t ≡ class u) ↔ IsCongruent terms held t u

-- What a search and its theories give each term: a truth, the number of its class, and a number.
pub record TheoryValues : Type 0 where
  -- the truths of terms of sort Bool
  pub truths : Truths
  -- the classes of terms
  pub class : Term → ℕ
  -- the numbers of terms of sort Real whose heads are none of arithmetic
  pub number : Term → Fraction

-- the values that these give, where terms with heads of arithmetic have the numbers of their heads
abbrev pub values_of : TheoryValues → Valuation
values_of a = value_by (term_true_by a.truths) (number_at a.number) a.class

-- What a search over equality, functions and linear arithmetic has where it is saturated, whether its theories agree on
-- shared terms or not.
pub record IsSaturatedWithNumbers (symbols : List Symbol) (p : Problem) (terms : List Term) (held : List Literal)
    (a : TheoryValues) : Type 0 where
  -- the terms of the check are formulas over the symbols, and so are the interface equalities
  pub formulas : All (IsFormulaOver symbols) (known_terms p)
  -- all terms that the search speaks of are listed
  pub listed : AreAmong (whole_terms p) terms
  -- and no others
  pub only : AreAmong terms (whole_terms p)
  -- products and quotients are linear
  pub linear : (t : Term) → Contains terms t → IsLinear t
  -- one term of each clause is true
  pub met : (c : Clause) → Contains (whole_clauses p) c → list_any (term_true_by a.truths) c ≡ true
  -- each term of sort Bool that is no negation is held with its truth
  pub truths : (t : Term) → Contains terms t → sort_of t ≡ Truth → literal_of t ≡ signed_literal t true
      → Contains held (signed_literal t (a.truths t))
  -- what is held joins neither the truth values nor sides that are held apart
  pub fine : IsFine terms held
  -- classes tell which listed terms it makes equal
  pub classes : (t u : Term) → Contains terms t → Contains terms u
      → (a.class t ≡ a.class u) ↔ IsCongruent terms held t u
  -- each number is in lowest terms
  pub reduced : (t : Term) → IsReduced (a.number t)
  -- what is held is so of the numbers
  pub kept : All (HoldsAt a.number) held

-- What such a search has where its theories agree on shared terms. Source: Nelson and Oppen 1979.
pub record IsSaturatedOnNumbers (symbols : List Symbol) (p : Problem) (terms : List Term) (held : List Literal)
    (a : TheoryValues) : Type 0 where
  -- it is saturated
  pub saturated_here : IsSaturatedWithNumbers symbols p terms held a
  -- the terms that both theories speak of
  pub shared : List Term
  pub shares : AreShared terms shared
  -- on these the numbers agree with the classes
  pub agree : Agrees (number_at a.number) a.class shared
