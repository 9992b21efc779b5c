-- Weighted sums of constraints that cannot all hold, and the clauses that say so.
-- Source: Farkas 1902; Dutertre and de Moura, CAV 2006.
use Rattle.std.specs.Prelude.{◌≡◌, Bool, true, false, not, cond, ◌&&◌, ◌||◌, List, [], ◌∷◌, Some, Result, Ok, Err, map}
use Rattle.spec_numbers.specs.Fractions.{Fraction, zero_fraction, plus, times, opposite, IsReduced}
use Rattle.spec_sorts.specs.Terms.{Term, negated}
use Rattle.spec_sorts.specs.Literals.{Clause, Literal}
use Rattle.spec_arithmetic.specs.Signs.{is_zero, is_above_zero, size}
use Rattle.spec_arithmetic.specs.Forms.{Form, form_value}
use Rattle.spec_arithmetic.specs.Contradictions.{Coefficient, given, Failure, shape, no_contradiction, wide}
use Rattle.spec_simplex.specs.Constraints.{Relation, below, at_most, equals, at_least, above, Constraint, constraint_of}
use Rattle.spec_simplex.specs.Constraints.{form_of}

-- A literal of a sum.
pub record Summand : Type 0 where
  -- the literal
  pub literal : Literal
  -- what it says
  pub constraint : Constraint
  -- the form of what it says
  pub form : Form
  -- its weight
  pub weight : Fraction

-- A summand in which the parts are those of its literal, and the weight is in lowest terms.
pub record IsSummand (x : Summand) : Type 0 where
  pub says : constraint_of x.literal ≡ Some x.constraint
  pub has : form_of x.constraint ≡ Ok x.form
  pub reduced : IsReduced x.weight

-- the weight by which a form is multiplied, so that the product is at most 0: of an order its size counts
abbrev pub signed_weight : Relation → Fraction → Fraction
signed_weight below w = size w
signed_weight at_most w = size w
signed_weight equals w = w
signed_weight at_least w = opposite (size w)
signed_weight above w = opposite (size w)

-- a form's value times its weight, where terms have these numbers
abbrev pub product_at : (Term → Fraction) → Summand → Fraction
product_at n x = times (signed_weight x.constraint.relation x.weight) (form_value n x.form)

-- the sum of these products
unfoldable pub weighted_sum : (Term → Fraction) → List Summand → Fraction
weighted_sum n [] = zero_fraction
weighted_sum n (x ∷ xs) = plus (product_at n x) (weighted_sum n xs)

-- 0 itself does not compare so with 0, and the weight is not 0
abbrev pub is_strict_by : Relation → Fraction → Bool
is_strict_by below w = not (is_zero w)
is_strict_by above w = not (is_zero w)
is_strict_by r w = false

-- some summand is strict
unfoldable pub has_strict : List Summand → Bool
has_strict [] = false
has_strict (x ∷ xs) = is_strict_by x.constraint.relation x.weight || has_strict xs

-- Summands that cannot all hold: for all numbers of terms the sum is one number, above 0, or 0 while a summand is
-- strict.
pub record CannotHold (xs : List Summand) : Type 0 where
  -- the sum
  pub sum : Fraction
  pub reduced : IsReduced sum
  pub same : (n : Term → Fraction) → ((t : Term) → IsReduced (n t)) → weighted_sum n xs ≡ sum
  pub sign : is_above_zero sum || (is_zero sum && has_strict xs) ≡ true

-- the literals of summands, in their order
abbrev pub literals_in : List Summand → List Literal
literals_in xs = map (λ (x : Summand). x.literal) xs

-- the term that negates a literal
abbrev pub denial : Literal → Term
denial l = cond l.positive (negated l.atom) l.atom

-- the clause that not all of the literals hold
abbrev pub denials : List Summand → Clause
denials xs = map (λ (x : Summand). denial x.literal) xs

-- the weights as arguments of the rule, in the order of the clause
abbrev pub arguments_of : List Summand → List Coefficient
arguments_of xs = map (λ (x : Summand). given x.weight) xs

-- a clause is taken, unless an operation leaves 128 bits
abbrev pub IsTakenOrWide : Result (Unit {0}) Failure → Type 0
IsTakenOrWide (Ok u) = Unit {0}
IsTakenOrWide (Err (wide o)) = Unit {0}
IsTakenOrWide (Err shape) = ⊥
IsTakenOrWide (Err no_contradiction) = ⊥
