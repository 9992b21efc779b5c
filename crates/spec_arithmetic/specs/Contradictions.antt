-- Weighted sums of negated literals that cannot hold: Farkas' lemma. Source: Alethe specification, `la_generic`; that
-- either orientation of equalities is taken, the order of the operations and the bound are own.
use Rattle.std.specs.Prelude.{Bool, true, false, not, ◌||◌, ◌&&◌, List, [], ◌∷◌, Option, Some, None, Result, Ok, Err}
use Rattle.spec_text.specs.Answers.{◌>>=◌}
use Rattle.spec_numbers.specs.Fractions.{Fraction, zero_fraction, opposite}
use Rattle.spec_numbers.specs.Bounds.{Overflow}
use Rattle.spec_sorts.specs.Terms.{Number, same_sort, Not, Equal, Less, AtMost, Term, app, nil, cons, pair, sort_of}
use Rattle.spec_arithmetic.specs.Signs.{is_zero, is_above_zero, size}
use Rattle.spec_arithmetic.specs.Forms.{Answer, Form, Fault, constant_form, adding, combined, scaled, difference}

-- How a form compares with 0.
pub data Relation : Type 0 where
  -- it is 0, it is below 0, or it is at most 0
  is_nought is_below is_at_most : Relation

-- What the negation of a literal says: how the difference of two terms compares with 0.
pub record Negation : Type 0 where
  -- how it compares with 0
  pub relation : Relation
  -- the atom of both terms
  pub atom : Term
  -- the term that the other is subtracted from
  pub left : Term
  -- and the other
  pub right : Term

-- both terms are of sort Real
abbrev pub are_numbers : Term → Term → Bool
are_numbers s t = same_sort (sort_of s) Number && same_sort (sort_of t) Number

-- what it says, where the test holds
abbrev pub where_true : Bool → Negation → Option Negation
where_true true n = Some n
where_true false n = None

-- what the difference of the two terms of an atom is to 0
abbrev pub saying : Relation → Term → Term → Term → Negation
saying r atom s t = record { relation = r; atom = atom; left = s; right = t }

-- what the negation of a term says that is meant positively or not, where it is one of arithmetic: `not`s turn how it
-- is meant, and the negation of an equality says nothing that a sum could use
unfoldable pub negation_of : Bool → Term → Option Negation
negation_of positive (app Not (cons t nil)) = negation_of (not positive) t
negation_of false (app Equal (cons s (cons t nil))) =
    where_true (are_numbers s t) (saying is_nought (pair Equal s t) s t)
negation_of false (app Less (cons s (cons t nil))) = where_true (are_numbers s t) (saying is_below (pair Less s t) s t)
negation_of false (app AtMost (cons s (cons t nil))) =
    where_true (are_numbers s t) (saying is_at_most (pair AtMost s t) s t)
negation_of true (app Less (cons s (cons t nil))) = where_true (are_numbers s t) (saying is_at_most (pair Less s t) t s)
negation_of true (app AtMost (cons s (cons t nil))) =
    where_true (are_numbers s t) (saying is_below (pair AtMost s t) t s)
negation_of positive t = None

-- What an argument of the rule is.
pub data Coefficient : Type 0 where
  -- a number
  given : Fraction → Coefficient
  -- a quotient that leaves 128 bits
  too_wide : Overflow → Coefficient
  -- no number
  malformed : Coefficient

-- what a literal's negation says with its argument, before the others, where all are well formed
abbrev pub paired_with : Option Negation → Coefficient → Option (List (Negation × Coefficient))
    → Option (List (Negation × Coefficient))
paired_with (Some n) (given c) (Some rest) = Some ((n, given c) ∷ rest)
paired_with (Some n) (too_wide w) (Some rest) = Some ((n, too_wide w) ∷ rest)
paired_with n c rest = None

-- what each literal's negation says with its argument, where all are well formed and there are as many of these as of
-- those
unfoldable pub paired : List Term → List Coefficient → Option (List (Negation × Coefficient))
paired [] [] = Some []
paired (t ∷ ts) (c ∷ cs) = paired_with (negation_of true t) c (paired ts cs)
paired ts cs = None

-- the numbers of the arguments, or the first quotient that leaves 128 bits
unfoldable pub numbered : List (Negation × Coefficient) → Answer (List (Negation × Fraction))
numbered [] = Ok []
numbered ((n, given c) ∷ rest) = numbered rest >>= λ r. Ok ((n, c) ∷ r)
numbered ((n, too_wide w) ∷ rest) = Err w
numbered ((n, malformed) ∷ rest) = numbered rest

-- What a literal brings to the sum.
pub record Part : Type 0 where
  -- how its form compares with 0 where the literal is false
  pub relation : Relation
  -- its form
  pub form : Form
  -- its coefficient
  pub weight : Fraction

-- an overflow without its term
abbrev pub without_term : {A : Type 0} → Result A Fault → Answer A
without_term (Ok a) = Ok a
without_term (Err f) = Err f.overflow

-- the forms of all literals, in order
unfoldable pub parts_of : List (Negation × Fraction) → Answer (List Part)
parts_of [] = Ok []
parts_of ((n, c) ∷ rest) =
    without_term (difference n.atom n.left n.right) >>= λ f.
    parts_of rest >>= λ r. Ok (record { relation = n.relation; form = f; weight = c } ∷ r)

-- by what a form is multiplied: an equality's by its coefficient, or this negated where equalities are turned; an
-- order's by its coefficient's size
abbrev pub weight_by : Bool → Relation → Fraction → Fraction
weight_by true is_nought c = opposite c
weight_by false is_nought c = c
weight_by turned r c = size c

-- the forms multiplied and added to a first one, in order
unfoldable pub summed : Bool → Form → List Part → Answer Form
summed turned f [] = Ok f
summed turned f (p ∷ ps) = scaled (weight_by turned p.relation p.weight) p.form >>= λ g. combined adding f g
    >>= λ h. summed turned h ps

-- the sum that begins as 0
abbrev pub sum_of : Bool → List Part → Answer Form
sum_of turned ps = summed turned (constant_form zero_fraction) ps

-- the form is below 0, and its coefficient is not 0
abbrev pub is_strict_part : Relation → Fraction → Bool
is_strict_part is_below c = not (is_zero c)
is_strict_part r c = false

-- some part is strict
unfoldable pub is_strict : List Part → Bool
is_strict [] = false
is_strict (p ∷ ps) = is_strict_part p.relation p.weight || is_strict ps

-- there are none
abbrev pub is_none : {A : Type 0} → List A → Bool
is_none [] = true
is_none (x ∷ xs) = false

-- a sum that is at most 0, or below 0 where it is strict, cannot be: no variable is left, and the constant is above 0,
-- or is 0 where the sum is strict
abbrev pub cannot_hold : Bool → Form → Bool
cannot_hold strict f = is_none f.variables && (is_above_zero f.constant || (is_zero f.constant && strict))

-- Why a clause is not taken.
pub data Failure : Type 0 where
  -- a literal or an argument that is none, or another number of arguments than of literals
  shape : Failure
  -- neither sum is a contradiction
  no_contradiction : Failure
  -- an operation leaves 128 bits
  wide : Overflow → Failure

-- an overflow as a failure
abbrev pub as_failure : {A : Type 0} → Answer A → Result A Failure
as_failure (Ok a) = Ok a
as_failure (Err w) = Err (wide w)

-- the clause is taken where the test holds
abbrev pub taken_if : Bool → Result (Unit {0}) Failure
taken_if true = Ok tt
taken_if false = Err no_contradiction

-- the clause by the sum with turned equalities
abbrev pub judged_last : List Part → Form → Result (Unit {0}) Failure
judged_last ps f = taken_if (cannot_hold (is_strict ps) f)

-- the clause by the sum as given; where that is no contradiction, by the one with turned equalities
abbrev pub judged_first : List Part → Form → Result (Unit {0}) Failure
judged_first ps f = elim (cannot_hold (is_strict ps) f) [
  | true ↦ Ok tt
  | false ↦ as_failure (sum_of true ps) >>= λ g. judged_last ps g
]

-- the clause by its parts
abbrev pub judged_parts : List Part → Result (Unit {0}) Failure
judged_parts ps = as_failure (sum_of false ps) >>= λ f. judged_first ps f

-- the clause by its literals with their arguments: first what leaves 128 bits in these, then in all forms
abbrev pub judged_pairs : Option (List (Negation × Coefficient)) → Result (Unit {0}) Failure
judged_pairs None = Err shape
judged_pairs (Some ps) = as_failure (numbered ps) >>= λ ns. as_failure (parts_of ns) >>= λ qs. judged_parts qs

-- the clause with its arguments by the rule `la_generic`, or why it is not taken
unfoldable pub la_generic : List Term → List Coefficient → Result (Unit {0}) Failure
la_generic clause cs = judged_pairs (paired clause cs)
