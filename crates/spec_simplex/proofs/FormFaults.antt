-- A form fails by the overflow of one of its operations.
use Rattle.std.specs.Prelude.{Bool, true, false, List, [], ◌∷◌, Option, Some, None, Result, Ok, Err, IfErr}
use Rattle.spec_text.specs.Answers.{◌>>=◌}
use Rattle.spec_numbers.specs.Fractions.{Fraction}
use Rattle.spec_numbers.specs.Bounds.{multiplied, divided}
use Rattle.spec_sorts.specs.Terms.{Head, Minus, Plus, Times, Divide, Term, Terms, app, nil, cons, same_term}
use Rattle.spec_arithmetic.specs.Forms.{Answer, Form, Way, adding, subtracting, joined, all_joined, combined, each_number, changed, scaled, shared_out, factor_of, all_added, all_multiplied, divisor_of, quotient_form, form_by, Fault, at_term, form, forms, difference, with_variable, variable_form}
use Rattle.spec_simplex.specs.Overflows.{IsOverflow}
use Rattle.spec_simplex.proofs.Failing.{failing_in_turn}
use Rattle.spec_simplex.proofs.Operations.{added_fails, subtracted_fails, multiplied_fails, divided_fails}

-- the fault is an overflow
abbrev pub IsFault : Fault → Type 0
IsFault e = IsOverflow e.overflow

-- an answer fails by an overflow
abbrev pub Fails : {A : Type 0} → Answer A → Type 0
Fails a = IfErr a IsOverflow

-- a way of joining fails by an overflow
abbrev FailsSo : Way → Type 0
FailsSo way = (x y : Fraction) → Fails (way.both x y)

joined_fails : (way : Way) → FailsSo way → (v : Term) (k : Fraction) (es : List (Term × Fraction)) → Fails (joined way v k es)
unfolding joined
joined_fails way h v k [] = tt
joined_fails way h v k ((w, m) ∷ rest) = by (same_term v w) (joined_fails way h v k rest)
  where
    by : (b : Bool) → Fails (joined way v k rest)
        → Fails (let r : Answer (List (Term × Fraction)) = elim b [ true ↦ way.both m k >>= λ s. Ok (with_variable w s rest) | false ↦ joined way v k rest >>= λ r. Ok ((w, m) ∷ r) ] in r)
    by true again = failing_in_turn IsOverflow (way.both m k) (λ s. Ok (with_variable w s rest)) (h m k) (λ s. tt)
    by false again = failing_in_turn IsOverflow (joined way v k rest) (λ r. Ok ((w, m) ∷ r)) again (λ r. tt)

all_joined_fails : (way : Way) → FailsSo way → (es fs : List (Term × Fraction)) → Fails (all_joined way es fs)
unfolding all_joined
all_joined_fails way h es [] = tt
all_joined_fails way h es ((v, k) ∷ fs) =
    failing_in_turn IsOverflow (joined way v k es) (λ r. all_joined way r fs) (joined_fails way h v k es) (λ r. all_joined_fails way h r fs)

combined_fails : (way : Way) → FailsSo way → (e f : Form) → Fails (combined way e f)
unfolding combined
combined_fails way h e f =
    failing_in_turn IsOverflow (way.both e.constant f.constant) _ (h e.constant f.constant)
    (λ c. failing_in_turn IsOverflow (all_joined way e.variables f.variables) _ (all_joined_fails way h e.variables f.variables) (λ vs. tt))

pub sum_fails : (e f : Form) → Fails (combined adding e f)
sum_fails = combined_fails adding added_fails

difference_of_forms_fails : (e f : Form) → Fails (combined subtracting e f)
difference_of_forms_fails = combined_fails subtracting subtracted_fails

module _ (change : Fraction → Answer Fraction) (h : (k : Fraction) → Fails (change k)) where
  each_number_fails : (es : List (Term × Fraction)) → Fails (each_number change es)
  unfolding each_number
  each_number_fails [] = tt
  each_number_fails ((v, k) ∷ rest) =
      failing_in_turn IsOverflow (change k) _ (h k)
      (λ m. failing_in_turn IsOverflow (each_number change rest) _ (each_number_fails rest) (λ r. tt))

  changed_fails : (f : Form) → Fails (changed change f)
  unfolding changed
  changed_fails f =
      failing_in_turn IsOverflow (change f.constant) _ (h f.constant)
      (λ c. failing_in_turn IsOverflow (each_number change f.variables) _ (each_number_fails f.variables) (λ vs. tt))

pub scaled_fails : (c : Fraction) (f : Form) → Fails (scaled c f)
scaled_fails c f = changed_fails (λ k. multiplied c k) (λ k. multiplied_fails c k) f

shared_out_fails : (f : Form) (d : Fraction) → Fails (shared_out f d)
shared_out_fails f d = changed_fails (λ k. divided k d) (λ k. divided_fails k d) f

all_added_fails : (f : Form) (gs : List Form) → Fails (all_added f gs)
unfolding all_added
all_added_fails f [] = tt
all_added_fails f (g ∷ gs) = failing_in_turn IsOverflow (combined adding f g) (λ h. all_added h gs) (sum_fails f g) (λ h. all_added_fails h gs)

all_multiplied_fails : (t : Term) (f : Form) (gs : List Form) → Fails (all_multiplied t f gs)
unfolding all_multiplied
all_multiplied_fails t f [] = tt
all_multiplied_fails t f (g ∷ gs) = by (factor_of f g) (λ h. all_multiplied_fails t h gs)
  where
    by : (o : Option (Fraction × Form)) → ((h : Form) → Fails (all_multiplied t h gs))
        → Fails (let r : Answer Form = elim o [ Some p ↦ scaled p.0 p.1 >>= λ h. all_multiplied t h gs | None ↦ Ok (variable_form t) ] in r)
    by None again = tt
    by (Some p) again = failing_in_turn IsOverflow (scaled p.0 p.1) (λ h. all_multiplied t h gs) (scaled_fails p.0 p.1) again

quotient_fails : (t : Term) (f g : Form) → Fails (quotient_form t f g)
unfolding quotient_form
quotient_fails t f g = by (divisor_of g)
  where
    by : (o : Option Fraction) → Fails (let r : Answer Form = elim o [ Some d ↦ shared_out f d | None ↦ Ok (variable_form t) ] in r)
    by None = tt
    by (Some d) = shared_out_fails f d

plus_fails : (t : Term) (fs : List Form) → Fails (form_by t Plus fs)
plus_fails t [] = tt
plus_fails t (f ∷ fs) = all_added_fails f fs

times_fails : (t : Term) (fs : List Form) → Fails (form_by t Times fs)
times_fails t [] = tt
times_fails t (f ∷ fs) = all_multiplied_fails t f fs

minus_fails : (t : Term) (fs : List Form) → Fails (form_by t Minus fs)
minus_fails t [] = tt
minus_fails t (f ∷ []) = tt
minus_fails t (f ∷ g ∷ []) = difference_of_forms_fails f g
minus_fails t (f ∷ g ∷ h ∷ fs) = tt

divide_fails : (t : Term) (fs : List Form) → Fails (form_by t Divide fs)
divide_fails t [] = tt
divide_fails t (f ∷ []) = tt
divide_fails t (f ∷ g ∷ []) = quotient_fails t f g
divide_fails t (f ∷ g ∷ h ∷ fs) = tt

at_term_fails : {A : Type 0} (t : Term) (a : Answer A) → Fails a → IfErr (at_term t a) IsFault
at_term_fails t (Ok a) h = tt
at_term_fails t (Err w) h = h

-- the form of a term by those of its arguments
by_arguments : (t : Term) (h : Head) (a : Result (List Form) Fault) → IfErr a IsFault → ((fs : List Form) → Fails (form_by t h fs))
    → IfErr (a >>= λ fs. at_term t (form_by t h fs)) IsFault
by_arguments t h a k g = failing_in_turn IsFault a (λ fs. at_term t (form_by t h fs)) k (λ fs. at_term_fails t (form_by t h fs) (g fs))

mutual
  unfolding form forms

  pub form_fails : (t : Term) → IfErr (form t) IsFault
  form_fails (app Plus ts) = by_arguments (app Plus ts) Plus (forms ts) (forms_fail ts) (plus_fails (app Plus ts))
  form_fails (app Times ts) = by_arguments (app Times ts) Times (forms ts) (forms_fail ts) (times_fails (app Times ts))
  form_fails (app Minus ts) = by_arguments (app Minus ts) Minus (forms ts) (forms_fail ts) (minus_fails (app Minus ts))
  form_fails (app Divide ts) = by_arguments (app Divide ts) Divide (forms ts) (forms_fail ts) (divide_fails (app Divide ts))
  form_fails (app h ts) = tt

  forms_fail : (ts : Terms) → IfErr (forms ts) IsFault
  forms_fail nil = tt
  forms_fail (cons t ts) =
      failing_in_turn IsFault (form t) _ (form_fails t) (λ f. failing_in_turn IsFault (forms ts) _ (forms_fail ts) (λ fs. tt))

pub difference_fails : (atom s t : Term) → IfErr (difference atom s t) IsFault
unfolding difference
difference_fails atom s t =
    failing_in_turn IsFault (form s) _ (form_fails s)
    (λ f. failing_in_turn IsFault (form t) _ (form_fails t) (λ g. at_term_fails atom (combined subtracting f g) (difference_of_forms_fails f g)))
