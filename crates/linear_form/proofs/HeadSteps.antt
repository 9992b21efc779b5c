-- What heads make of forms, step by step.
use Rattle.std.proofs.Common.{◌≡◌, ◌≢◌, ℕ, ◌+◌, ◌<◌, ◌≤◌, Bool, true, false, List, [], ◌∷◌, map, length, drop, get_or, Option, Some, None, Result, Ok, Err, IfOk, IfErr, refl, sym, ◌∙◌, ap, subst, arith}
use Rattle.std.proofs.lemmas.List.{drop_all}
use Rattle.std.proofs.lemmas.Bool.Decides.{Decides-eqb}
use Rattle.std.specs.Prelude.{◌==◌}
use Rattle.spec_text.specs.Answers.{◌>>=◌}
use Rattle.spec_numbers.specs.Fractions.{Fraction}
use Rattle.spec_numbers.specs.Bounds.{Overflow}
use Rattle.spec_sorts.specs.Terms.{Term, Minus, Divide}
use Rattle.spec_arithmetic.specs.Signs.{is_zero}
use Rattle.spec_arithmetic.specs.Forms.{Answer, Form, adding, combined, scaled, shared_out, factor_of, variable_form, all_added, all_multiplied, divisor_of, divisor_by, quotient_form, form_by}
use Rattle.term_core.specs.declared.ids.TermId.{TermId}
use Rattle.term_core.specs.Tables.{TableView, term_at}
use Rattle.linear_form.specs.declared.stop.FormStop.{FormStop}
use Rattle.linear_form.specs.declared.stop.FormStop.TheVariants as stops
use Rattle.linear_form.specs.Meant.{FormView, pair_meant, form_meant, AreVariablesOf}
use Rattle.linear_form.specs.Making.{FailsBy, ReturnsMade, forms_meant, HaveVariables, product_step}
use Rattle.linear_form.proofs.Indexes.{left_at}
use Rattle.linear_form.proofs.Joining.{fails_on}

-- the term itself as a variable
pub variable_made : (t : TableView) (id : TermId) (a : Answer Form) (r : Result FormView FormStop) → a ≡ Ok (variable_form (term_at t id))
    → IfOk r (λ f. (t : TableView) → form_meant t f ≡ variable_form (term_at t id)) → IfErr r (λ e. e ≡ stops.Memory) → ReturnsMade a r (form_meant t)
variable_made t id a (Ok f) e h k = e ∙ ap Ok (sym (h t))
variable_made t id a (Err (stops.Wide w)) e h k = cc
variable_made t id a (Err stops.Memory) e h k = tt

-- a number or a negative, which only memory hinders
pub alone_made : (t : TableView) (a : Answer Form) (b : TableView → Form) (r : Result FormView FormStop) → a ≡ Ok (b t) → IfOk r (λ f. (t : TableView) → form_meant t f ≡ b t) → IfErr r (λ e. e ≡ stops.Memory) → ReturnsMade a r (form_meant t)
alone_made t a b (Ok f) e h k = e ∙ ap Ok (sym (h t))
alone_made t a b (Err (stops.Wide w)) e h k = cc
alone_made t a b (Err stops.Memory) e h k = tt

pub meant_empty : (t : TableView) (v : FormView) → v.variables ≡ [] → (form_meant t v).variables ≡ []
meant_empty t v e = ap (map (pair_meant t)) e

pub meant_other : (t : TableView) (v : FormView) → v.variables ≢ [] → (form_meant t v).variables ≢ []
meant_other t v h = by v.variables h
  where
    by : (vs : List (TermId × Fraction)) → vs ≢ [] → map (pair_meant t) vs ≢ []
    by [] h e = h refl
    by (p ∷ vs) h e = cc

-- products
abbrev some_of : Answer Form → Answer (Option Form)
some_of a = a >>= λ h. Ok (Some h)

left_by : (fc gc : Fraction) (fv gv : List (Term × Fraction)) → fv ≡ [] → product_step (record { constant = fc; variables = fv }) (record { constant = gc; variables = gv }) ≡ (scaled fc (record { constant = gc; variables = gv }) >>= λ h. Ok (Some h))
unfolding product_step
left_by fc gc [] gv e = refl
left_by fc gc (x ∷ fv) gv e = cc

right_by : (fc gc : Fraction) (fv gv : List (Term × Fraction)) → fv ≢ [] → gv ≡ [] → product_step (record { constant = fc; variables = fv }) (record { constant = gc; variables = gv }) ≡ (scaled gc (record { constant = fc; variables = fv }) >>= λ h. Ok (Some h))
unfolding product_step
right_by fc gc [] gv h e = absurd (h refl)
right_by fc gc (x ∷ fv) [] h e = refl
right_by fc gc (x ∷ fv) (y ∷ gv) h e = cc

none_by : (fc gc : Fraction) (fv gv : List (Term × Fraction)) → fv ≢ [] → gv ≢ [] → product_step (record { constant = fc; variables = fv }) (record { constant = gc; variables = gv }) ≡ Ok None
unfolding product_step
none_by fc gc [] gv h k = absurd (h refl)
none_by fc gc (x ∷ fv) [] h k = absurd (k refl)
none_by fc gc (x ∷ fv) (y ∷ gv) h k = refl

some_ok : (a : Answer Form) (f : Form) → a ≡ Ok f → (a >>= λ h. Ok (Some h)) ≡ Ok (Some f)
unfolding ◌>>=◌
some_ok a f e = ap (λ a. a >>= λ h. Ok (Some h)) e

some_err : (a : Answer Form) (w : Overflow) → a ≡ Err w → (a >>= λ h. Ok (Some h)) ≡ Err w
unfolding ◌>>=◌
some_err a w e = ap (λ a. a >>= λ h. Ok (Some h)) e

pub left_ok : (f g h : Form) → f.variables ≡ [] → scaled f.constant g ≡ Ok h → product_step f g ≡ Ok (Some h)
left_ok f g h e k = left_by f.constant g.constant f.variables g.variables e ∙ some_ok (scaled f.constant g) h k

pub left_fails : (f g : Form) (s : FormStop) → f.variables ≡ [] → FailsBy (scaled f.constant g) s → FailsBy (product_step f g) s
left_fails f g s e k = fails_on (product_step f g) (scaled f.constant g) s (λ w h. left_by f.constant g.constant f.variables g.variables e ∙ some_err (scaled f.constant g) w h) k

pub right_ok : (f g h : Form) → f.variables ≢ [] → g.variables ≡ [] → scaled g.constant f ≡ Ok h → product_step f g ≡ Ok (Some h)
right_ok f g h n e k = right_by f.constant g.constant f.variables g.variables n e ∙ some_ok (scaled g.constant f) h k

pub right_fails : (f g : Form) (s : FormStop) → f.variables ≢ [] → g.variables ≡ [] → FailsBy (scaled g.constant f) s → FailsBy (product_step f g) s
right_fails f g s n e k = fails_on (product_step f g) (scaled g.constant f) s (λ w h. right_by f.constant g.constant f.variables g.variables n e ∙ some_err (scaled g.constant f) w h) k

pub neither_ok : (f g : Form) → f.variables ≢ [] → g.variables ≢ [] → product_step f g ≡ Ok None
neither_ok f g n m = none_by f.constant g.constant f.variables g.variables n m

-- the product of all, by one step
by_step : (u : Term) (f g : Form) (gs : List Form) → all_multiplied u f (g ∷ gs) ≡ (product_step f g >>= λ o. elim o as (λ o. Answer Form) [ Some h ↦ all_multiplied u h gs | None ↦ Ok (variable_form u) ])
unfolding all_multiplied product_step ◌>>=◌
by_step u f g gs = by (factor_of f g)
  where
    by : (o : Option (Fraction × Form))
        → (let a : Answer Form = elim o [ Some p ↦ scaled p.0 p.1 >>= λ h. all_multiplied u h gs | None ↦ Ok (variable_form u) ] in a)
        ≡ ((let a : Answer (Option Form) = elim o [ Some p ↦ scaled p.0 p.1 >>= λ h. Ok (Some h) | None ↦ Ok None ] in a) >>= λ o. elim o as (λ o. Answer Form) [ Some h ↦ all_multiplied u h gs | None ↦ Ok (variable_form u) ])
    by (Some p) = two (scaled p.0 p.1)
      where
        two : (a : Answer Form) → (a >>= λ h. all_multiplied u h gs) ≡ ((a >>= λ h. Ok (Some h)) >>= λ o. elim o as (λ o. Answer Form) [ Some h ↦ all_multiplied u h gs | None ↦ Ok (variable_form u) ])
        two (Ok h) = refl
        two (Err w) = refl
    by None = refl

step_some : (u : Term) (f g h : Form) (gs : List Form) → product_step f g ≡ Ok (Some h) → all_multiplied u f (g ∷ gs) ≡ all_multiplied u h gs
unfolding ◌>>=◌
step_some u f g h gs e = by_step u f g gs ∙ ap (λ a. a >>= λ o. elim o as (λ o. Answer Form) [ Some h ↦ all_multiplied u h gs | None ↦ Ok (variable_form u) ]) e

step_none : (u : Term) (f g : Form) (gs : List Form) → product_step f g ≡ Ok None → all_multiplied u f (g ∷ gs) ≡ Ok (variable_form u)
unfolding ◌>>=◌
step_none u f g gs e = by_step u f g gs ∙ ap (λ a. a >>= λ o. elim o as (λ o. Answer Form) [ Some h ↦ all_multiplied u h gs | None ↦ Ok (variable_form u) ]) e

step_err : (u : Term) (f g : Form) (gs : List Form) (w : Overflow) → product_step f g ≡ Err w → all_multiplied u f (g ∷ gs) ≡ Err w
unfolding ◌>>=◌
step_err u f g gs w e = by_step u f g gs ∙ ap (λ a. a >>= λ o. elim o as (λ o. Answer Form) [ Some h ↦ all_multiplied u h gs | None ↦ Ok (variable_form u) ]) e

-- along a list of forms
pub form_there : (t : TableView) (fs : List FormView) (at : ℕ) (f : FormView) → at < length fs → f ≡ get_or fs at f → HaveVariables t fs → AreVariablesOf t f
form_there t fs at f h e n = subst (AreVariablesOf t) (sym e) (n at f h)

pub multiplied_some : (t : TableView) (u : Term) (f h : Form) (fs : List FormView) (at : ℕ) (g : FormView) → at < length fs → g ≡ get_or fs at g → product_step f (form_meant t g) ≡ Ok (Some h)
    → all_multiplied u f (forms_meant t (drop at fs)) ≡ all_multiplied u h (forms_meant t (drop (at + 1) fs))
multiplied_some t u f h fs at g lt e k = ap (λ l. all_multiplied u f (forms_meant t l)) (left_at fs at g lt e) ∙ step_some u f (form_meant t g) h (forms_meant t (drop (at + 1) fs)) k

pub multiplied_none : (t : TableView) (u : Term) (f : Form) (fs : List FormView) (at : ℕ) (g : FormView) → at < length fs → g ≡ get_or fs at g → product_step f (form_meant t g) ≡ Ok None
    → all_multiplied u f (forms_meant t (drop at fs)) ≡ Ok (variable_form u)
multiplied_none t u f fs at g lt e k = ap (λ l. all_multiplied u f (forms_meant t l)) (left_at fs at g lt e) ∙ step_none u f (form_meant t g) (forms_meant t (drop (at + 1) fs)) k

pub multiplied_err : (t : TableView) (u : Term) (f : Form) (fs : List FormView) (at : ℕ) (g : FormView) (w : Overflow) → at < length fs → g ≡ get_or fs at g → product_step f (form_meant t g) ≡ Err w
    → all_multiplied u f (forms_meant t (drop at fs)) ≡ Err w
multiplied_err t u f fs at g w lt e k = ap (λ l. all_multiplied u f (forms_meant t l)) (left_at fs at g lt e) ∙ step_err u f (form_meant t g) (forms_meant t (drop (at + 1) fs)) w k

pub multiplied_end : (t : TableView) (u : Term) (f : Form) (fs : List FormView) (at : ℕ) → length fs ≤ at → all_multiplied u f (forms_meant t (drop at fs)) ≡ Ok f
unfolding all_multiplied
multiplied_end t u f fs at h = ap (λ l. all_multiplied u f (forms_meant t l)) (drop_all at fs h)

-- sums
pub added_more : (t : TableView) (f h : Form) (fs : List FormView) (at : ℕ) (g : FormView) → at < length fs → g ≡ get_or fs at g → combined adding f (form_meant t g) ≡ Ok h
    → all_added f (forms_meant t (drop at fs)) ≡ all_added h (forms_meant t (drop (at + 1) fs))
unfolding all_added ◌>>=◌
added_more t f h fs at g lt e k = ap (λ l. all_added f (forms_meant t l)) (left_at fs at g lt e) ∙ ap (λ a. a >>= λ h. all_added h (forms_meant t (drop (at + 1) fs))) k

pub added_err : (t : TableView) (f : Form) (fs : List FormView) (at : ℕ) (g : FormView) (w : Overflow) → at < length fs → g ≡ get_or fs at g → combined adding f (form_meant t g) ≡ Err w
    → all_added f (forms_meant t (drop at fs)) ≡ Err w
unfolding all_added ◌>>=◌
added_err t f fs at g w lt e k = ap (λ l. all_added f (forms_meant t l)) (left_at fs at g lt e) ∙ ap (λ a. a >>= λ h. all_added h (forms_meant t (drop (at + 1) fs))) k

pub added_end : (t : TableView) (f : Form) (fs : List FormView) (at : ℕ) → length fs ≤ at → all_added f (forms_meant t (drop at fs)) ≡ Ok f
unfolding all_added
added_end t f fs at h = ap (λ l. all_added f (forms_meant t l)) (drop_all at fs h)

-- quotients
not_number : (d : Fraction) (vs : List (Term × Fraction)) (b : Bool) → vs ≢ [] → divisor_by b vs d ≡ None
not_number d [] b h = absurd (h refl)
not_number d (x ∷ vs) true h = refl
not_number d (x ∷ vs) false h = refl

zero_number : (d : Fraction) (vs : List (Term × Fraction)) (b : Bool) → b ≡ true → divisor_by b vs d ≡ None
zero_number d vs true e = refl
zero_number d vs false e = cc

a_number : (d : Fraction) (vs : List (Term × Fraction)) (b : Bool) → vs ≡ [] → b ≡ false → divisor_by b vs d ≡ Some d
a_number d [] false e f = refl
a_number d [] true e f = cc
a_number d (x ∷ vs) b e f = cc

quotient_none : (u : Term) (f g : Form) → divisor_of g ≡ None → quotient_form u f g ≡ Ok (variable_form u)
unfolding quotient_form
quotient_none u f g e = ap {A = Option Fraction} {B = Answer Form} (λ o. elim o [ Some d ↦ shared_out f d | None ↦ Ok (variable_form u) ]) e

quotient_some : (u : Term) (f g : Form) (d : Fraction) → divisor_of g ≡ Some d → quotient_form u f g ≡ shared_out f d
unfolding quotient_form
quotient_some u f g d e = ap {A = Option Fraction} {B = Answer Form} (λ o. elim o [ Some d ↦ shared_out f d | None ↦ Ok (variable_form u) ]) e

pub quotient_variables : (u : Term) (f g : Form) → g.variables ≢ [] → quotient_form u f g ≡ Ok (variable_form u)
quotient_variables u f g h = quotient_none u f g (not_number g.constant g.variables (is_zero g.constant) h)

pub quotient_zero : (u : Term) (f g : Form) → is_zero g.constant ≡ true → quotient_form u f g ≡ Ok (variable_form u)
quotient_zero u f g h = quotient_none u f g (zero_number g.constant g.variables (is_zero g.constant) h)

pub quotient_number : (u : Term) (f g : Form) → g.variables ≡ [] → is_zero g.constant ≡ false → quotient_form u f g ≡ shared_out f g.constant
quotient_number u f g e h = quotient_some u f g g.constant (a_number g.constant g.variables (is_zero g.constant) e h)

-- a list of one
pub one_form : (t : TableView) (fs : List FormView) (g : FormView) → length fs ≡ 1 → g ≡ get_or fs 0 g → forms_meant t fs ≡ form_meant t g ∷ []
one_form t [] g h e = absurd (omega (arith, h))
one_form t (f ∷ []) g h e = ap (λ x. form_meant t x ∷ []) (sym e)
one_form t (f ∷ x ∷ fs) g h e = absurd (omega (arith, h))

-- no forms
pub no_forms : (fs : List FormView) → true ≡ (length fs == 0) → fs ≡ []
no_forms [] e = refl
no_forms (f ∷ fs) e = absurd (omega (arith, (Decides-eqb (length (f ∷ fs)) 0).0 (sym e)))

-- differences and quotients of another number of forms
pub minus_other : (t : TableView) (u : Term) (f : Form) (fs : List FormView) → fs ≢ [] → (length fs ≡ 1 → ⊥) → form_by u Minus (f ∷ forms_meant t fs) ≡ Ok (variable_form u)
minus_other t u f [] h n = absurd (h refl)
minus_other t u f (g ∷ []) h n = absurd (n refl)
minus_other t u f (g ∷ k ∷ fs) h n = refl

pub divide_other : (t : TableView) (u : Term) (f : Form) (fs : List FormView) → (length fs ≡ 1 → ⊥) → form_by u Divide (f ∷ forms_meant t fs) ≡ Ok (variable_form u)
divide_other t u f [] n = refl
divide_other t u f (g ∷ []) n = absurd (n refl)
divide_other t u f (g ∷ k ∷ fs) n = refl
