-- The ordered linear form of a term, or its first operation that leaves 128 bits. The order of the operations, of the
-- variables and the bound are own.
use Rattle.std.specs.Prelude.{Bool, true, false, List, [], ◌∷◌, Option, Some, None, Result, Ok, Err}
use Rattle.spec_text.specs.Answers.{◌>>=◌}
use Rattle.spec_numbers.specs.Fractions.{Fraction, zero_fraction, one_fraction, plus, times, opposite}
use Rattle.spec_numbers.specs.Bounds.{Overflow, added, subtracted, multiplied, divided}
use Rattle.spec_sorts.specs.Terms.{Head, Minus, Plus, Times, Divide, Literal, Term, Terms, app, nil, cons, same_term}
use Rattle.spec_arithmetic.specs.Signs.{is_zero}

-- what an operation gives, or its overflow
abbrev pub Answer : Type 0 → Type 0
Answer A = Result A Overflow

-- A constant, and variables with coefficients other than 0, in their order. A variable is a term whose head is none of
-- arithmetic.
pub record Form : Type 0 where
  -- the constant
  pub constant : Fraction
  -- each variable with its coefficient
  pub variables : List (Term × Fraction)

-- a constant alone
abbrev pub constant_form : Fraction → Form
constant_form q = record { constant = q; variables = [] }

-- a variable alone, once
abbrev pub variable_form : Term → Form
variable_form t = record { constant = zero_fraction; variables = (t, one_fraction) ∷ [] }

-- How two forms are joined.
pub record Way : Type 0 where
  -- what two numbers in one place give
  pub both : Fraction → Fraction → Answer Fraction
  -- what becomes of a number of the second form that has none in the first
  pub alone : Fraction → Fraction

-- the second is added to the first
abbrev pub adding : Way
adding = record { both = added; alone = λ k. k }

-- the second is subtracted from the first
abbrev pub subtracting : Way
subtracting = record { both = subtracted; alone = opposite }

-- a variable before others, unless the test says that its coefficient is 0
abbrev pub unless_zero : Bool → Term → Fraction → List (Term × Fraction) → List (Term × Fraction)
unless_zero true v k rest = rest
unless_zero false v k rest = (v, k) ∷ rest

-- a variable before others, where its coefficient is not 0
abbrev pub with_variable : Term → Fraction → List (Term × Fraction) → List (Term × Fraction)
with_variable v k rest = unless_zero (is_zero k) v k rest

-- a variable with its coefficient joined to those that are there: in its place where it is one of them, else after them
unfoldable pub joined : Way → Term → Fraction → List (Term × Fraction) → Answer (List (Term × Fraction))
joined way v k [] = Ok ((v, way.alone k) ∷ [])
joined way v k ((w, m) ∷ rest) = elim (same_term v w) [
  | true ↦ way.both m k >>= λ s. Ok (with_variable w s rest)
  | false ↦ joined way v k rest >>= λ r. Ok ((w, m) ∷ r)
]

-- variables joined to those that are there, one after the other
unfoldable pub all_joined : Way → List (Term × Fraction) → List (Term × Fraction) → Answer (List (Term × Fraction))
all_joined way es [] = Ok es
all_joined way es ((v, k) ∷ fs) = joined way v k es >>= λ r. all_joined way r fs

-- the second form joined to the first: the constants, then the variables of the second in their order
unfoldable pub combined : Way → Form → Form → Answer Form
combined way e f =
    way.both e.constant f.constant >>= λ c.
    all_joined way e.variables f.variables >>= λ vs.
    Ok (record { constant = c; variables = vs })

-- variables with their coefficients negated
abbrev pub opposites : List (Term × Fraction) → List (Term × Fraction)
opposites [] = []
opposites ((v, k) ∷ rest) = (v, opposite k) ∷ opposites rest

-- a form with every number negated
abbrev pub opposite_form : Form → Form
opposite_form f = record { constant = opposite f.constant; variables = opposites f.variables }

-- each coefficient changed, in order; a variable whose coefficient becomes 0 is dropped
unfoldable pub each_number : (Fraction → Answer Fraction) → List (Term × Fraction) → Answer (List (Term × Fraction))
each_number change [] = Ok []
each_number change ((v, k) ∷ rest) = change k >>= λ m. each_number change rest >>= λ r. Ok (with_variable v m r)

-- a form with its constant changed, and then its coefficients in order
unfoldable pub changed : (Fraction → Answer Fraction) → Form → Answer Form
changed change f =
    change f.constant >>= λ c.
    each_number change f.variables >>= λ vs.
    Ok (record { constant = c; variables = vs })

-- a form multiplied by a number, which is on the left of each product
abbrev pub scaled : Fraction → Form → Answer Form
scaled c f = changed (λ k. multiplied c k) f

-- a form divided by a number
abbrev pub shared_out : Form → Fraction → Answer Form
shared_out f d = changed (λ k. divided k d) f

-- of two forms, by their variables, the constant of one without variables, the left one if both are, and the other form
abbrev pub factor_by : List (Term × Fraction) → List (Term × Fraction) → Form → Form → Option (Fraction × Form)
factor_by [] gs f g = Some (f.constant, g)
factor_by (p ∷ ps) [] f g = Some (g.constant, f)
factor_by (p ∷ ps) (q ∷ qs) f g = None

-- the factor and the other form, where one of two forms has no variables
abbrev pub factor_of : Form → Form → Option (Fraction × Form)
factor_of f g = factor_by f.variables g.variables f g

-- forms added to a first one, in order
unfoldable pub all_added : Form → List Form → Answer Form
all_added f [] = Ok f
all_added f (g ∷ gs) = combined adding f g >>= λ h. all_added h gs

-- the product of a term, from the left; where two forms with variables meet, the term is a variable
unfoldable pub all_multiplied : Term → Form → List Form → Answer Form
all_multiplied t f [] = Ok f
all_multiplied t f (g ∷ gs) = elim (factor_of f g) [
  | Some p ↦ scaled p.0 p.1 >>= λ h. all_multiplied t h gs
  | None ↦ Ok (variable_form t)
]

-- a divisor, by whether its constant is 0 and by its variables
abbrev pub divisor_by : Bool → List (Term × Fraction) → Fraction → Option Fraction
divisor_by false [] d = Some d
divisor_by _ _ d = None

-- the number that a form is, where it is one other than 0
abbrev pub divisor_of : Form → Option Fraction
divisor_of g = divisor_by (is_zero g.constant) g.variables g.constant

-- the quotient of a term; where the divisor is no number other than 0, the term is a variable
unfoldable pub quotient_form : Term → Form → Form → Answer Form
quotient_form t f g = elim (divisor_of g) [ Some d ↦ shared_out f d | None ↦ Ok (variable_form t) ]

-- the form of a term with this head, by those of its arguments
abbrev pub form_by : Term → Head → List Form → Answer Form
form_by t Plus (f ∷ fs) = all_added f fs
form_by t Times (f ∷ fs) = all_multiplied t f fs
form_by t Minus (f ∷ []) = Ok (opposite_form f)
form_by t Minus (f ∷ g ∷ []) = combined subtracting f g
form_by t Divide (f ∷ g ∷ []) = quotient_form t f g
form_by t (Literal q) _ = Ok (constant_form q)
form_by t h fs = Ok (variable_form t)

-- An operation that leaves 128 bits, and the term whose head makes it.
pub record Fault : Type 0 where
  -- the term
  pub term : Term
  -- the operation with its operands
  pub overflow : Overflow

-- what a term's head gives, or its overflow with the term
abbrev pub at_term : {A : Type 0} → Term → Answer A → Result A Fault
at_term t (Ok a) = Ok a
at_term t (Err w) = Err (record { term = t; overflow = w })

-- arguments first, from left to right, then the operations of the head
unfoldable mutual
  -- the form of a term, or its first operation that leaves 128 bits
  pub form : Term → Result Form Fault
  form (app Plus ts) = forms ts >>= λ fs. at_term (app Plus ts) (form_by (app Plus ts) Plus fs)
  form (app Times ts) = forms ts >>= λ fs. at_term (app Times ts) (form_by (app Times ts) Times fs)
  form (app Minus ts) = forms ts >>= λ fs. at_term (app Minus ts) (form_by (app Minus ts) Minus fs)
  form (app Divide ts) = forms ts >>= λ fs. at_term (app Divide ts) (form_by (app Divide ts) Divide fs)
  form (app (Literal q) ts) = Ok (constant_form q)
  form (app h ts) = Ok (variable_form (app h ts))

  -- the forms of terms, in their order, or the first operation that leaves 128 bits
  pub forms : Terms → Result (List Form) Fault
  forms nil = Ok []
  forms (cons t ts) = form t >>= λ f. forms ts >>= λ fs. Ok (f ∷ fs)

-- the form of one term with that of another subtracted; the subtraction itself is made by an atom of both
unfoldable pub difference : Term → Term → Term → Result Form Fault
difference atom s t = form s >>= λ f. form t >>= λ g. at_term atom (combined subtracting f g)

-- the sum of variables, each times its coefficient, where terms have these numbers
unfoldable pub variables_value : (Term → Fraction) → List (Term × Fraction) → Fraction
variables_value n [] = zero_fraction
variables_value n ((v, k) ∷ rest) = plus (times k (n v)) (variables_value n rest)

-- the value of a form where terms have these numbers
unfoldable pub form_value : (Term → Fraction) → Form → Fraction
form_value n f = plus f.constant (variables_value n f.variables)
