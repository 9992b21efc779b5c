-- Forms, arguments and clauses of `la_generic` worked out.
use Rattle.std.specs.Prelude.{◌++◌, ◌≡◌, refl, ℕ, ◌^◌, ◌-◌, pos, negsuc, List, [], ◌∷◌, Ok, Err, codes, ⊤}
use Rattle.spec_text.specs.Lexemes.{lexemes, first_piece}
use Rattle.spec_text.specs.Answers.{◌>>=◌}
use Rattle.spec_numbers.specs.Fractions.{Fraction, gcd, whole, zero_fraction, one_fraction, plus, times, opposite}
use Rattle.spec_numbers.specs.Fractions.{inverse}
use Rattle.spec_numbers.specs.Bounds.{is_small, fits, sum_fits, added, subtracted, multiplied, divided}
use Rattle.spec_numbers.specs.declared.Op.TheVariants.{Add, Mul, Div}
use Rattle.spec_sorts.specs.Terms.{Number, Declared, Equal, Minus, Plus, Times, Divide, Less, AtMost, Literal, Term, of}
use Rattle.spec_sorts.specs.Terms.{pair, negated, constant, constant_term, same_term, same_terms, sort_of, second_sort}
use Rattle.spec_sorts.specs.Theory.{is_constant, are_constant, is_divisor, is_zero_divisor}
use Rattle.spec_sorts.specs.Numerals.{literal_value}
use Rattle.spec_sorts.specs.Written.{built, trees_in}
use Rattle.spec_arithmetic.specs.Signs.{is_zero, is_above_zero, size}
use Rattle.spec_arithmetic.specs.Forms.{joined, all_joined, combined, each_number, changed, all_added, all_multiplied}
use Rattle.spec_arithmetic.specs.Forms.{quotient_form, form, forms, difference}
use Rattle.spec_arithmetic.specs.Numbers.{number_at, numbers_at, IsLinear, AreLinear}
use Rattle.spec_arithmetic.specs.Contradictions.{Coefficient, given, too_wide, malformed, negation_of, paired, numbered}
use Rattle.spec_arithmetic.specs.Contradictions.{parts_of, summed, is_strict, shape, no_contradiction, wide, la_generic}
use Rattle.spec_arithmetic.specs.Coefficients.{coefficient_of, coefficients_of}

-- what a proof unfolds to compute forms of terms that are written out
unfoldable pub forms_on_literals : ⊤
unfolding form forms all_added all_multiplied quotient_form combined joined all_joined each_number changed added
    subtracted multiplied divided sum_fits fits is_small plus times opposite inverse is_zero same_term same_terms ◌>>=◌
    gcd
forms_on_literals = tt

-- and what it unfolds to judge clauses
unfoldable pub clauses_on_literals : ⊤
unfolding forms_on_literals la_generic paired negation_of numbered parts_of difference summed is_strict is_above_zero
    size coefficient_of coefficients_of literal_value lexemes first_piece built sort_of second_sort
clauses_on_literals = tt

-- the numbers that texts write
abbrev pub arguments : List ℕ → List Coefficient
arguments text = coefficients_of (trees_in text)

-- a fraction in lowest terms over a number above 1
abbrev pub over : Fraction → ℕ → Fraction
over q d = record { num = q.num; den = d }

-- the greatest whole number within the bound
abbrev pub greatest : Fraction
greatest = whole (pos (2 ^ 127 - 1))

-- three constants of sort Real, and one of another sort
abbrev pub x : Term
x = constant_term (constant (codes "x") Number)

abbrev pub y : Term
y = constant_term (constant (codes "y") Number)

abbrev pub z : Term
z = constant_term (constant (codes "z") Number)

abbrev pub u : Term
u = constant_term (constant (codes "u") (Declared (codes "U")))

-- a number as a term
abbrev pub literal : Fraction → Term
literal q = of (Literal q) []

-- a whole number as a term
abbrev pub natural : ℕ → Term
natural n = literal (whole (pos n))

-- sums, differences, products and quotients of two terms
abbrev pub sum : Term → Term → Term
sum s t = pair Plus s t

abbrev pub minus_example : Term → Term → Term
minus_example s t = pair Minus s t

abbrev pub product : Term → Term → Term
product s t = pair Times s t

abbrev pub quotient : Term → Term → Term
quotient s t = pair Divide s t

-- an order that is strict, one that is not, and an equality
abbrev pub less : Term → Term → Term
less s t = pair Less s t

abbrev pub at_most : Term → Term → Term
at_most s t = pair AtMost s t

abbrev pub equal_example : Term → Term → Term
equal_example s t = pair Equal s t

-- variables are in the order in which they come, constants are added, and what comes to 0 is dropped
pub ordered : form (of Plus (natural 1 ∷ y ∷ product (natural 2) x ∷ y ∷ natural 3 ∷ []))
    ≡ Ok (record { constant = whole (pos 4); variables = (y, whole (pos 2)) ∷ (x, whole (pos 2)) ∷ [] })
unfolding forms_on_literals
ordered = refl

pub dropped : form (of Plus (x ∷ y ∷ of Minus (x ∷ []) ∷ []))
    ≡ Ok (record { constant = zero_fraction; variables = (y, one_fraction) ∷ [] })
unfolding forms_on_literals
dropped = refl

-- a variable that was dropped comes after the others when it comes again
pub again : form (of Plus (x ∷ y ∷ of Minus (x ∷ []) ∷ x ∷ []))
    ≡ Ok (record { constant = zero_fraction; variables = (y, one_fraction) ∷ (x, one_fraction) ∷ [] })
unfolding forms_on_literals
again = refl

-- differences negate what is new, products multiply by the side without variables, quotients divide
pub subtracted_form : form (minus_example x (sum y (natural 5)))
    ≡ Ok (record { constant = whole (negsuc 4); variables = (x, one_fraction) ∷ (y, whole (negsuc 0)) ∷ [] })
unfolding forms_on_literals
subtracted_form = refl

pub product_form : form (of Times (sum x (natural 1) ∷ natural 2 ∷ natural 3 ∷ []))
    ≡ Ok (record { constant = whole (pos 6); variables = (x, whole (pos 6)) ∷ [] })
unfolding forms_on_literals
product_form = refl

pub quotient_of_form : form (quotient (sum x (natural 1)) (natural 2))
    ≡ Ok (record { constant = over (whole (pos 1)) 2; variables = (x, over (whole (pos 1)) 2) ∷ [] })
unfolding forms_on_literals
quotient_of_form = refl

-- a product of variables, and a quotient by one or by 0, is a variable
pub no_product : form (product x y)
    ≡ Ok (record { constant = zero_fraction; variables = (product x y, one_fraction) ∷ [] })
unfolding forms_on_literals
no_product = refl

pub no_quotient : form (quotient x (natural 0))
    ≡ Ok (record { constant = zero_fraction; variables = (quotient x (natural 0), one_fraction) ∷ [] })
unfolding forms_on_literals
no_quotient = refl

-- a term has its head's number, a product of variables too, though this is a variable of its form
pub number_of_sum : number_at (λ t. whole (pos 3)) (of Plus (natural 1 ∷ product (natural 2) x ∷ quotient y (natural 6)
    ∷ [])) ≡ over (whole (pos 15)) 2
unfolding forms_on_literals number_at numbers_at
number_of_sum = refl

pub number_of_product : number_at (λ t. whole (pos 3)) (minus_example (product x y) (of Minus (z ∷ [])))
    ≡ whole (pos 12)
unfolding forms_on_literals number_at numbers_at
number_of_product = refl

-- a product of a constant and a sum is linear, and one of two variables, or a quotient by 0, is not
pub linear_product : IsLinear (product (sum (natural 1) (natural 2)) (sum x (quotient y (natural 6))))
unfolding IsLinear AreLinear is_constant are_constant is_divisor is_zero_divisor
linear_product = (
  refl,
  (
    (tt, ((tt, tt), ((tt, tt), tt))),
    ((tt, ((tt, tt), ((refl, ((tt, tt), ((tt, tt), tt))), tt))), tt),
  ),
)

pub no_linear_product : IsLinear (sum z (product x y)) → ⊥
unfolding IsLinear AreLinear is_constant are_constant
no_linear_product l = let e = l.1.1.0.0 in cc

pub no_linear_quotient : IsLinear (quotient x (natural 0)) → ⊥
unfolding IsLinear AreLinear is_divisor is_zero_divisor
no_linear_quotient l = let e = l.0 in cc

-- the first operation that leaves the bound, with the term whose head makes it
pub first_overflow : form (sum (product (literal greatest) (sum x (natural 2))) (sum (literal greatest) (natural 1)))
    ≡ Err (record {
      term = product (literal greatest) (sum x (natural 2));
      overflow = record { op = Mul; left = greatest; right = whole (pos 2) };
    })
unfolding forms_on_literals
first_overflow = refl

-- arguments: numerals, decimals, negations and quotients, nested too
pub numbers : arguments (codes "2 0.50 (- 3) (/ 1 3) (/ (- 1) 3) (- (/ 4 6)) (/ (/ 1 2) 0.5)") ≡ given (whole (pos 2))
    ∷ given (over (whole (pos 1)) 2) ∷ given (whole (negsuc 2)) ∷ given (over (whole (pos 1)) 3)
    ∷ given (over (whole (negsuc 0)) 3) ∷ given (over (whole (negsuc 1)) 3) ∷ given one_fraction ∷ []
unfolding forms_on_literals clauses_on_literals
numbers = refl

-- what is none: a symbol, a quotient of three, a sum, and an empty list
pub no_numbers : arguments (codes "x (/ 1 2 3) (+ 1 2) ()") ≡ malformed ∷ malformed ∷ malformed ∷ malformed ∷ []
unfolding forms_on_literals clauses_on_literals
no_numbers = refl

-- an operation without a number or with two, and a list for a symbol
pub no_operations : arguments (codes "(-) (- 1 2) ((- 1))") ≡ malformed ∷ malformed ∷ malformed ∷ []
unfolding forms_on_literals clauses_on_literals
no_operations = refl

-- a quotient by 0, also below a negation
pub zero_divisors : arguments (codes "(/ 1 0) (/ 1 (- 0.0)) (- (/ 1 0))") ≡ malformed ∷ malformed ∷ malformed ∷ []
unfolding forms_on_literals clauses_on_literals
zero_divisors = refl

-- a literal beyond the bound
pub wide_literal : arguments (codes "170141183460469231731687303715884105728") ≡ malformed ∷ []
unfolding forms_on_literals clauses_on_literals
wide_literal = refl

-- a quotient that leaves the bound; what is malformed next to it comes first
pub wide_quotient : arguments (codes "(/ 170141183460469231731687303715884105727 0.5) "
    ++ codes "(/ (/ 170141183460469231731687303715884105727 0.5) 0)")
    ≡ too_wide (record { op = Div; left = greatest; right = over (whole (pos 1)) 2 }) ∷ malformed ∷ []
unfolding forms_on_literals clauses_on_literals
wide_quotient = refl

-- x below y and y below x
pub two_orders : la_generic (negated (less x y) ∷ negated (less y x) ∷ []) (arguments (codes "1 1")) ≡ Ok tt
unfolding forms_on_literals clauses_on_literals
two_orders = refl

-- an order's sign does not count, and its size does
pub size_of_order : la_generic (negated (less x y) ∷ negated (less y x) ∷ []) (arguments (codes "(- 2) 2")) ≡ Ok tt
unfolding forms_on_literals clauses_on_literals
size_of_order = refl

pub other_size : la_generic (negated (less x y) ∷ negated (less y x) ∷ []) (arguments (codes "1 2"))
    ≡ Err no_contradiction
unfolding forms_on_literals clauses_on_literals
other_size = refl

-- a coefficient 0 leaves variables
pub zero_coefficient : la_generic (negated (less x y) ∷ negated (less y x) ∷ []) (arguments (codes "1 0"))
    ≡ Err no_contradiction
unfolding forms_on_literals clauses_on_literals
zero_coefficient = refl

-- as many arguments as literals
pub argument_missing : la_generic (negated (less x y) ∷ negated (less y x) ∷ []) (arguments (codes "1")) ≡ Err shape
unfolding forms_on_literals clauses_on_literals
argument_missing = refl

pub argument_more : la_generic (negated (less x y) ∷ negated (less y x) ∷ []) (arguments (codes "1 1 1")) ≡ Err shape
unfolding forms_on_literals clauses_on_literals
argument_more = refl

-- an equality as it is is none of its literals, and one of another sort neither
pub positive_equality : la_generic (equal_example x y ∷ negated (less x y) ∷ []) (arguments (codes "1 1")) ≡ Err shape
unfolding forms_on_literals clauses_on_literals
positive_equality = refl

pub other_sort : la_generic (negated (equal_example u u) ∷ []) (arguments (codes "1")) ≡ Err shape
unfolding forms_on_literals clauses_on_literals
other_sort = refl

-- `not`s are read by parity
pub many_nots : la_generic (negated (negated (negated (less x y))) ∷ negated (negated (at_most x y)) ∷ [])
    (arguments (codes "1 1")) ≡ Ok tt
unfolding forms_on_literals clauses_on_literals
many_nots = refl

pub even_nots : la_generic (negated (negated (less x y)) ∷ at_most y x ∷ []) (arguments (codes "1 1")) ≡ Ok tt
unfolding forms_on_literals clauses_on_literals
even_nots = refl

-- a sum of 0 is a contradiction where a strict part counts
pub not_strict : la_generic (negated (at_most x y) ∷ negated (at_most y x) ∷ []) (arguments (codes "1 1"))
    ≡ Err no_contradiction
unfolding forms_on_literals clauses_on_literals
not_strict = refl

pub strict_part : la_generic (negated (at_most x y) ∷ negated (less y x) ∷ []) (arguments (codes "1 1")) ≡ Ok tt
unfolding forms_on_literals clauses_on_literals
strict_part = refl

-- a strict part with the coefficient 0 does not
pub strict_by_zero : la_generic (negated (less x y) ∷ negated (equal_example x x) ∷ []) (arguments (codes "0 1"))
    ≡ Err no_contradiction
unfolding forms_on_literals clauses_on_literals
strict_by_zero = refl

-- an equality counts in either direction: x is y and y is below x, with the sum as given and turned
pub equality_given : la_generic (negated (equal_example x y) ∷ negated (less x y) ∷ []) (arguments (codes "(- 1) 1"))
    ≡ Ok tt
unfolding forms_on_literals clauses_on_literals
equality_given = refl

pub equality_turned : la_generic (negated (equal_example x y) ∷ negated (less x y) ∷ []) (arguments (codes "1 1"))
    ≡ Ok tt
unfolding forms_on_literals clauses_on_literals
equality_turned = refl

-- all equalities are turned, or none
pub one_turned : la_generic (negated (equal_example x y) ∷ negated (equal_example z y) ∷ negated (less x z) ∷ [])
    (arguments (codes "1 1 1")) ≡ Err no_contradiction
unfolding forms_on_literals clauses_on_literals
one_turned = refl

-- three times the greatest number leaves the bound in the sum
pub too_great : la_generic (negated (less (product (natural 3) x) (natural 0)) ∷ negated (less (natural 0) x) ∷ [])
    (arguments (codes "170141183460469231731687303715884105727 1"))
    ≡ Err (wide (record { op = Mul; left = greatest; right = whole (pos 3) }))
unfolding forms_on_literals clauses_on_literals
too_great = refl

-- in a form, which comes before the sum; and in an argument, which comes before all forms; what has no shape comes
-- first
pub wide_form : la_generic (negated (less (sum (literal greatest) (natural 1)) x) ∷ []) (arguments (codes "0"))
    ≡ Err (wide (record { op = Add; left = greatest; right = one_fraction }))
unfolding forms_on_literals clauses_on_literals
wide_form = refl

pub wide_argument : la_generic (negated (less (sum (literal greatest) (natural 1)) x) ∷ negated (less x y) ∷ [])
    (arguments (codes "0 (/ 170141183460469231731687303715884105727 0.5)"))
    ≡ Err (wide (record { op = Div; left = greatest; right = over (whole (pos 1)) 2 }))
unfolding forms_on_literals clauses_on_literals
wide_argument = refl

pub shape_first : la_generic (negated (less (sum (literal greatest) (natural 1)) x) ∷ x ∷ [])
    (arguments (codes "0 (/ 170141183460469231731687303715884105727 0.5)")) ≡ Err shape
unfolding forms_on_literals clauses_on_literals
shape_first = refl

-- no literal, and no argument: the sum is 0, and nothing is strict
pub nothing : la_generic [] (arguments []) ≡ Err no_contradiction
unfolding forms_on_literals clauses_on_literals
nothing = refl
