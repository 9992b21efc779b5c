-- Constraints, points and weights worked out, with two numbers x and y and a value u of another sort.
use Rattle.std.specs.Prelude.{◌≡◌, refl, ℕ, nat_eq, Bool, true, false, cond, List, [], ◌∷◌, Some, None, Ok, pos, negsuc}
use Rattle.std.specs.Prelude.{map, ⊤}
use Rattle.std.proofs.Common.{subst}
use Rattle.spec_numbers.specs.Fractions.{IsReduced, compare, whole, zero_fraction, one_fraction}
use Rattle.spec_numbers.proofs.Field.{zero-reduced, one-reduced}
use Rattle.spec_sorts.specs.Terms.{And, Term, pair, negated, same_term}
use Rattle.spec_sorts.specs.Literals.{Literal}
use Rattle.spec_arithmetic.specs.Forms.{Form, Fault, variables_value, form_value}
use Rattle.spec_arithmetic.specs.Numbers.{number_at, numbers_at, IsLinear}
use Rattle.spec_arithmetic.specs.Contradictions.{la_generic}
use Rattle.spec_arithmetic.specs.Examples as texts
use Rattle.spec_arithmetic.specs.Examples.{forms_on_literals, clauses_on_literals, x, y, u}
use Rattle.spec_arithmetic.proofs.General.{same_ok, same_some}
use Rattle.spec_tableaux.specs.Spaces.{Pair}
use Rattle.spec_tableaux.specs.Rows.{Entry}
use Rattle.spec_tableaux.specs.Numbers as tableaux
use Rattle.spec_simplex.specs.Constraints.{Relation, below, at_most, equals, at_least, above, Constraint, saying}
use Rattle.spec_simplex.specs.Constraints.{constraint_by, constraint_of, form_of}
use Rattle.spec_simplex.specs.Points.{Point, is_below_zero, is_over, is_under, relates, base_at, tilt_at, FormHolds}
use Rattle.spec_simplex.specs.Points.{KeepsLiteral}
use Rattle.spec_simplex.specs.Weights.{Summand, signed_weight, weighted_sum, has_strict, denials, arguments_of}
use Rattle.spec_simplex.specs.Numbers.{Compares, HoldsAt}
use Rattle.spec_simplex.specs.Entries.{AreEntries}

-- what a proof unfolds to compute what literals say
unfoldable pub literals_that_say : ⊤
unfolding forms_on_literals clauses_on_literals constraint_by variables_value form_value
    is_below_zero is_over is_under weighted_sum has_strict
literals_that_say = tt

-- an atom as it is, and negated
abbrev pub plain_literal : Term → Literal
plain_literal t = record { atom = t; positive = true }

abbrev pub denied : Term → Literal
denied t = record { atom = t; positive = false }

-- what orders say, as they are and negated
pub less_plain : constraint_of (plain_literal (texts.less x y)) ≡ Some (saying below (texts.less x y) x y)
unfolding literals_that_say
less_plain = refl

pub less_denied : constraint_of (denied (texts.less x y)) ≡ Some (saying at_least (texts.less x y) x y)
unfolding literals_that_say
less_denied = refl

pub at_most_plain : constraint_of (plain_literal (texts.at_most x y)) ≡ Some (saying at_most (texts.at_most x y) x y)
unfolding literals_that_say
at_most_plain = refl

pub at_most_denied : constraint_of (denied (texts.at_most x y)) ≡ Some (saying above (texts.at_most x y) x y)
unfolding literals_that_say
at_most_denied = refl

-- that numbers are equal is a constraint, and that they differ is none
pub equal_plain : constraint_of (plain_literal (texts.equal_example x y))
    ≡ Some (saying equals (texts.equal_example x y) x y)
unfolding literals_that_say
equal_plain = refl

pub equal_denied : constraint_of (denied (texts.equal_example x y)) ≡ None
unfolding literals_that_say
equal_denied = refl

-- an equality of another sort says nothing, and a connective neither
pub other_sort : constraint_of (plain_literal (texts.equal_example u u)) ≡ None
unfolding literals_that_say
other_sort = refl

pub connective : constraint_of (plain_literal (pair And (texts.less x y) (texts.less y x))) ≡ None
unfolding literals_that_say
connective = refl

-- 0 and 1 as numbers of a tableau
abbrev pub none : tableaux.Number
none = record { fraction = zero_fraction; reduced = zero-reduced }

abbrev pub one : tableaux.Number
one = record { fraction = one_fraction; reduced = one-reduced }

-- x has one value, and every other term the other
abbrev pub point : Pair tableaux.Number → Pair tableaux.Number → Point
point p q t = cond (same_term t x) p q

-- x is 1, and y is 1 and an infinitesimal more
abbrev pub close : Point
close = point (record { base = one; tilt = none }) (record { base = one; tilt = one })

-- x and y are 1
abbrev pub level : Point
level = point (record { base = one; tilt = none }) (record { base = one; tilt = none })

-- the form of x minus y
abbrev pub x_minus_y : Form
x_minus_y = record { constant = zero_fraction; variables = (x, one_fraction) ∷ (y, whole (negsuc 0)) ∷ [] }

pub form_of_less : form_of (saying below (texts.less x y) x y) ≡ Ok x_minus_y
unfolding literals_that_say
form_of_less = refl

-- it is no number apart from 0 at the first point, and an infinitesimal below it
pub close_base : base_at close x_minus_y ≡ zero_fraction
unfolding literals_that_say
close_base = refl

pub close_tilt : tilt_at close x_minus_y ≡ whole (negsuc 0)
unfolding literals_that_say
close_tilt = refl

-- all relations, in order
abbrev pub relations : List Relation
relations = below ∷ at_most ∷ equals ∷ at_least ∷ above ∷ []

-- which of them hold of x minus y at a point
abbrev pub relations_at : Point → List Bool
relations_at p = map (λ r. relates r (base_at p x_minus_y) (tilt_at p x_minus_y)) relations

-- so it is below 0 there, and not at least 0; at the second point it is 0
pub close_relates : relations_at close ≡ true ∷ true ∷ false ∷ false ∷ false ∷ []
unfolding literals_that_say
close_relates = refl

pub level_relates : relations_at level ≡ false ∷ true ∷ true ∷ true ∷ false ∷ []
unfolding literals_that_say
level_relates = refl

-- a base other than 0 decides, whatever the tilt is
pub base_decides : map (λ r. relates r one_fraction (whole (negsuc 4))) relations ≡ false ∷ false ∷ false ∷ true ∷ true
    ∷ []
unfolding literals_that_say
base_decides = refl

-- the first point keeps that x is below y
pub close_keeps : KeepsLiteral close (plain_literal (texts.less x y))
unfolding literals_that_say
close_keeps c is f has =
    subst (λ c. (f : Form) → form_of c ≡ Ok f → FormHolds c.relation close f) (same_some _ _ is)
    (λ f has. subst (FormHolds below close) (same_ok {E = Fault} _ _ has) refl) f has

-- a point keeps a literal that says nothing
pub level_keeps : KeepsLiteral level (denied (texts.equal_example x y))
unfolding literals_that_say
level_keeps c is f has = absurd (none_is c is)
  where
    none_is : (c : Constraint) → None ≡ Some c → ⊥
    none_is c e = cc

-- where x has the number 5, and all others have 7, it holds that x is below y, and that 1 is at most 2 * y
pub five_is_below_seven : HoldsAt (λ t. cond (same_term t x) (whole (pos 5)) (whole (pos 7)))
    (plain_literal (texts.less x y))
unfolding literals_that_say number_at numbers_at IsLinear compare
five_is_below_seven c is = subst
    (λ c. IsLinear c.left → IsLinear c.right
    → Compares c.relation (number_at (λ t. cond (same_term t x) (whole (pos 5)) (whole (pos 7))) c.left)
    (number_at (λ t. cond (same_term t x) (whole (pos 5)) (whole (pos 7))) c.right))
    (same_some _ _ is) (λ left right. refl)

pub one_is_up_to_double : HoldsAt (λ t. whole (pos 7))
    (denied (texts.less (texts.product (texts.natural 2) y) (texts.natural 1)))
unfolding literals_that_say number_at numbers_at IsLinear compare
one_is_up_to_double c is = subst
    (λ c. IsLinear c.left → IsLinear c.right
    → Compares c.relation (number_at (λ t. whole (pos 7)) c.left) (number_at (λ t. whole (pos 7)) c.right))
    (same_some _ _ is) (λ left right. refl)

-- a literal that says how x minus y compares with 0, with the weight 1
abbrev pub summand : Literal → Relation → Summand
summand l r = record { literal = l; constraint = saying r l.atom x y; form = x_minus_y; weight = one_fraction }

-- x is below y, and x is at least y
abbrev pub summands : List Summand
summands = summand (plain_literal (texts.less x y)) below ∷ summand (denied (texts.less x y)) at_least ∷ []

-- the second counts with its size negated, so that the sum is 0, here where x is 5 and y is 7; and the first is strict
pub sum_is_zero : weighted_sum (λ t. cond (same_term t x) (whole (pos 5)) (whole (pos 7))) summands ≡ zero_fraction
unfolding literals_that_say
sum_is_zero = refl

pub sum_is_strict : has_strict summands ≡ true
unfolding literals_that_say
sum_is_strict = refl

-- an equality counts with its weight as it is, and each order with its size or that negated
pub weights : map (λ r. signed_weight r (whole (negsuc 2))) relations
    ≡ whole (pos 3) ∷ whole (pos 3) ∷ whole (negsuc 2) ∷ whole (negsuc 2) ∷ whole (negsuc 2) ∷ []
unfolding literals_that_say
weights = refl

-- the clause that they do not both hold, which the rule takes
pub clause : denials summands ≡ negated (texts.less x y) ∷ texts.less x y ∷ []
clause = refl

pub clause_is_taken : la_generic (denials summands) (arguments_of summands) ≡ Ok tt
unfolding literals_that_say
clause_is_taken = refl

-- x has the number 4, and all others are y
abbrev pub variable_at : ℕ → Term
variable_at n = cond (nat_eq n 4) x y

pub minus_one_reduced : IsReduced (whole (negsuc 0))
unfolding literals_that_say
minus_one_reduced = record { positive = one-reduced.positive; coprime = refl }

-- -1 as a number of a tableau
abbrev pub minus_one : tableaux.Number
minus_one = record { fraction = whole (negsuc 0); reduced = minus_one_reduced }

-- an entry of a variable
abbrev pub entry : ℕ → tableaux.Number → Entry tableaux.Number
entry n k = record { variable = n; coefficient = k }

-- the variables of x minus y as entries
pub entries : AreEntries variable_at (entry 4 one ∷ entry 9 minus_one ∷ []) x_minus_y.variables
entries = (record { variable = refl; coefficient = refl }, (record { variable = refl; coefficient = refl }, tt))
