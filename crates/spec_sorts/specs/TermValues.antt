-- The value of a term as read. Source: SMT-LIB 2.6, section 5.3, theories Core and Reals.
use Rattle.std.specs.Prelude.{Bool, true, false, not, ◌||◌, List, [], ◌∷◌, get_or}
use Rattle.std.specs.declared.cmp.Ordering.{Ordering}
use Rattle.std.proofs.Common.{Less as below}
use Rattle.spec_sorts.specs.Lists.{left}
use Rattle.spec_numbers.specs.Fractions.{Fraction, zero_fraction, one_fraction, opposite, plus, minus, times, divide}
use Rattle.spec_numbers.specs.Fractions.{compare}
use Rattle.spec_sorts.specs.Terms.{Head, True, False, Not, And, Or, Xor, Implies, Equal, Ite, Minus, Plus, Times}
use Rattle.spec_sorts.specs.Terms.{Divide, Less, AtMost, Literal, Apply, Parameter, Term, Terms, app, nil, cons}
use Rattle.spec_sorts.specs.Values.{Value, truth, number, same_value, is_true, number_in, all_true, any_true, different}
use Rattle.spec_sorts.specs.Values.{chosen, Interpretation, table_value}

-- the first of two that compare so is less
abbrev pub is_below : Ordering → Bool
is_below below = true
is_below o = false

-- one fraction is less than another
abbrev pub less : Fraction → Fraction → Bool
less p q = is_below (compare p q)

-- one fraction is at most another
abbrev pub at_most : Fraction → Fraction → Bool
at_most p q = not (less q p)

-- a fraction for two values
abbrev pub by_numbers : (Fraction → Fraction → Fraction) → Value → Value → Value
by_numbers f v w = number (f (number_in v) (number_in w))

-- numbers added to the left; one alone is itself
abbrev pub sum : List Value → Value
sum vs = left (number zero_fraction) (by_numbers plus) vs

-- numbers multiplied to the left; one alone is itself
abbrev pub product : List Value → Value
product vs = left (number one_fraction) (by_numbers times) vs

-- what a head gives at its arguments' values
abbrev pub head_value : Interpretation → Head → List Value → Value
head_value i True vs = truth true
head_value i False vs = truth false
head_value i Not vs = truth (not (all_true vs))
head_value i And vs = truth (all_true vs)
head_value i Or vs = truth (any_true vs)
head_value i Xor (v ∷ w ∷ _) = truth (different (is_true v) (is_true w))
head_value i Implies (v ∷ w ∷ _) = truth (not (is_true v) || is_true w)
head_value i Equal (v ∷ w ∷ _) = truth (same_value v w)
head_value i Ite vs = chosen vs
head_value i Minus (v ∷ []) = number (opposite (number_in v))
head_value i Minus (v ∷ w ∷ _) = by_numbers minus v w
head_value i Plus vs = sum vs
head_value i Times vs = product vs
head_value i Divide (v ∷ w ∷ _) = by_numbers divide v w
head_value i Less (v ∷ w ∷ _) = truth (less (number_in v) (number_in w))
head_value i AtMost (v ∷ w ∷ _) = truth (at_most (number_in v) (number_in w))
head_value i (Literal q) vs = number q
head_value i (Apply f) vs = table_value i f.name vs
head_value i _ _ = truth false

unfoldable mutual
  -- the value of a term whose parameters have these values
  pub value_at : Interpretation → List Value → Term → Value
  value_at i ps (app (Parameter k s) ts) = get_or ps k (truth false)
  value_at i ps (app h ts) = head_value i h (values_at i ps ts)

  -- the values of terms, in their order
  pub values_at : Interpretation → List Value → Terms → List Value
  values_at i ps nil = []
  values_at i ps (cons t ts) = value_at i ps t ∷ values_at i ps ts
