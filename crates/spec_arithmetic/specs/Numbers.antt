-- The numbers of terms of sort Real, by those of the terms whose heads are none of arithmetic. Source: SMT-LIB 2.6,
-- theory Reals; what is linear is own.
use Rattle.std.specs.Prelude.{◌≡◌, List, [], ◌∷◌, None}
use Rattle.spec_numbers.specs.Fractions.{Fraction, zero_fraction, one_fraction, opposite, plus, minus, times, divide}
use Rattle.spec_sorts.specs.Lists.{left}
use Rattle.spec_sorts.specs.Terms.{Number, Symbol, Head, Minus, Plus, Times, Divide, Literal, Term, Terms, app, nil}
use Rattle.spec_sorts.specs.Terms.{cons, list_of, sort_of}
use Rattle.spec_sorts.specs.WellSorted.{IsWellSorted}
use Rattle.spec_sorts.specs.Theory.{product_fault, quotient_fault}

-- what a head of arithmetic gives at its arguments' numbers; the other where it has too few of them, and of any other
-- head
abbrev pub head_number : Head → List Fraction → Fraction → Fraction
head_number Plus (p ∷ ps) other = left zero_fraction plus (p ∷ ps)
head_number Times (p ∷ ps) other = left one_fraction times (p ∷ ps)
head_number Minus (p ∷ []) other = opposite p
head_number Minus (p ∷ q ∷ _) other = minus p q
head_number Divide (p ∷ q ∷ _) other = divide p q
head_number (Literal q) ps other = q
head_number h ps other = other

unfoldable mutual
  -- the number of a term where terms whose heads are none of arithmetic have these numbers
  pub number_at : (Term → Fraction) → Term → Fraction
  number_at n (app h ts) = head_number h (numbers_at n ts) (n (app h ts))

  -- the numbers of terms, in their order
  pub numbers_at : (Term → Fraction) → Terms → List Fraction
  numbers_at n nil = []
  numbers_at n (cons t ts) = number_at n t ∷ numbers_at n ts

-- of the factors at most one is no constant, and the divisor is a number other than 0; of any other head nothing is
-- asked
abbrev pub IsLinearHead : Head → List Term → Type 0
IsLinearHead Times ts = product_fault ts ≡ None
IsLinearHead Divide ts = quotient_fault ts ≡ None
IsLinearHead h ts = Unit {0}

unfoldable mutual
  -- each product and each quotient in a term is linear, as all are that are read
  pub IsLinear : Term → Type 0
  IsLinear (app h ts) = IsLinearHead h (list_of ts) × AreLinear ts

  -- and in terms
  pub AreLinear : Terms → Type 0
  AreLinear nil = Unit {0}
  AreLinear (cons t ts) = IsLinear t × AreLinear ts

-- A linear term of sort Real over symbols.
pub record IsLinearOver (symbols : List Symbol) (t : Term) : Type 0 where
  -- it is well sorted, without parameters
  pub term : IsWellSorted symbols [] t
  -- it has the sort Real
  pub sort : sort_of t ≡ Number
  -- and is linear
  pub linear : IsLinear t
