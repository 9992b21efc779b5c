-- Steps of weighted sums, and how a clause is judged by them.
use Rattle.std.proofs.Common.{◌≡◌, ◌≢◌, ℕ, ◌+◌, ◌<◌, ◌≤◌, Bool, true, false, ◌||◌, List, [], ◌∷◌, length, drop, get_or, Result, Ok, Err, ℤ, pos, negsuc, neg_ℤ, unsigned_abs, refl, sym, ◌∙◌, ap, subst, arith, true≢false}
use Rattle.std.specs.Prelude.{IsErrAnd}
use Rattle.std.specs.Int.RustNames.{int_lt}
use Rattle.std.proofs.lemmas.List.{drop_all}
use Rattle.std.proofs.lemmas.Bool.Decides.{nat_tests}
use Rattle.spec_text.specs.Answers.{◌>>=◌}
use Rattle.spec_numbers.specs.Fractions.{Fraction, opposite}
use Rattle.spec_numbers.specs.Bounds.{Overflow}
use Rattle.spec_sorts.specs.Terms.{Term}
use Rattle.spec_arithmetic.specs.Signs.{size}
use Rattle.spec_arithmetic.specs.Forms.{Answer, Form, Fault, adding, subtracting, combined, scaled, at_term, form, difference}
use Rattle.spec_arithmetic.specs.Contradictions as sums
use Rattle.spec_arithmetic.specs.Contradictions.{Failure, as_failure, judged_first, judged_last, judged_parts, taken_if, weight_by, sum_of, summed, is_strict, is_strict_part, cannot_hold, without_term}
use Rattle.term_core.specs.declared.ids.TermId.{TermId}
use Rattle.term_core.specs.Tables.{TableView}
use Rattle.linear_form.specs.declared.arith_fault.ArithFault.{ArithFault}
use Rattle.linear_form.specs.declared.stop.FormFault.{FormFault}
use Rattle.linear_form.specs.declared.stop.FormFault.TheVariants as faults
use Rattle.linear_form.specs.declared.stop.FormStop.{FormStop}
use Rattle.linear_form.specs.declared.stop.FormStop.TheVariants as stops
use Rattle.linear_form.specs.declared.sums.WeightedForm.{WeightedForm}
use Rattle.linear_form.specs.Meant.{form_meant}
use Rattle.linear_form.specs.Making.{FailsBy, Comes, Finds, fault_meant}
use Rattle.linear_form.specs.Sums.{part_meant, parts_meant, HasVariablesOf, HaveVariablesOf, added_part, stop_by, fault_by, JudgesSum, judged_turned}
use Rattle.linear_form.proofs.Indexes.{left_at}
use Rattle.linear_form.proofs.Joining.{fails_on}

-- an error from below says why the clause is not taken
pub judges_failed : (a : Result (Unit {0}) Failure) (r : Result (Unit {0}) ArithFault) (s : FormStop) → IsErrAnd r (λ e. e ≡ fault_by s) → JudgesSum a (Err (fault_by s)) → JudgesSum a r
judges_failed a (Ok b) s is h = absurd is
judges_failed a (Err e) s is h = subst (λ f. JudgesSum a (Err f)) (sym is) h

-- the size of a number
pub size_below : (x : Fraction) → int_lt x.num (pos 0) ≡ true → opposite x ≡ size x
unfolding opposite size
size_below x e = by x.num x.den e
  where
    by : (z : ℤ) (d : ℕ) → int_lt z (pos 0) ≡ true → (let f : Fraction = record { num = neg_ℤ z; den = d } in f) ≡ record { num = pos (unsigned_abs z); den = d }
    by (pos n) d e = absurd (no n e)
      where
        no : (n : ℕ) → int_lt (pos n) (pos 0) ≡ true → ⊥
        no n e = grind (arith, nat_tests)
    by (negsuc n) d e = refl

pub size_other : (x : Fraction) → int_lt x.num (pos 0) ≡ false → x ≡ size x
unfolding size
size_other x e = by x.num x.den e
  where
    by : (z : ℤ) (d : ℕ) → int_lt z (pos 0) ≡ false → (let f : Fraction = record { num = z; den = d } in f) ≡ record { num = pos (unsigned_abs z); den = d }
    by (pos n) d e = refl
    by (negsuc n) d e = absurd (true≢false e)

-- one more part
added_ok : (turned : Bool) (f g : Form) (p : sums.Part) → scaled (weight_by turned p.relation p.weight) p.form ≡ Ok g → added_part turned f p ≡ combined adding f g
unfolding added_part ◌>>=◌
added_ok turned f g p e = ap (λ a. a >>= λ g. combined adding f g) e

added_err : (turned : Bool) (f : Form) (p : sums.Part) (w : Overflow) → scaled (weight_by turned p.relation p.weight) p.form ≡ Err w → added_part turned f p ≡ Err w
unfolding added_part ◌>>=◌
added_err turned f p w e = ap (λ a. a >>= λ g. combined adding f g) e

pub added_comes : (turned : Bool) (f g new : Form) (p : sums.Part) (r : Result (Unit {0}) FormStop) (c : Fraction) → c ≡ weight_by turned p.relation p.weight → scaled c p.form ≡ Ok g
    → Comes (combined adding f g) r new → Comes (added_part turned f p) r new
added_comes turned f g new p r c h e k = subst (λ a. Comes a r new) (sym (added_ok turned f g p (ap (λ c. scaled c p.form) (sym h) ∙ e))) k

pub added_fails : (turned : Bool) (f : Form) (p : sums.Part) (s : FormStop) (c : Fraction) → c ≡ weight_by turned p.relation p.weight → FailsBy (scaled c p.form) s → FailsBy (added_part turned f p) s
added_fails turned f p s c h k = fails_on (added_part turned f p) (scaled c p.form) s (λ w e. added_err turned f p w (ap (λ c. scaled c p.form) (sym h) ∙ e)) k

bind_again : {A B C : Type 0} (a : Answer A) (f : A → Answer B) (g : B → Answer C) → (a >>= λ x. f x >>= g) ≡ ((a >>= f) >>= g)
unfolding ◌>>=◌
bind_again (Ok a) f g = refl
bind_again (Err w) f g = refl

by_part : (turned : Bool) (f : Form) (p : sums.Part) (ps : List sums.Part) → summed turned f (p ∷ ps) ≡ (added_part turned f p >>= λ h. summed turned h ps)
unfolding summed added_part
by_part turned f p ps = bind_again (scaled (weight_by turned p.relation p.weight) p.form) (λ g. combined adding f g) (λ h. summed turned h ps)

module _ (t : TableView) (ps : List WeightedForm) (at : ℕ) where
  module _ (p : WeightedForm) (lt : at < length ps) (is : p ≡ get_or ps at p) where
    left : drop at ps ≡ p ∷ drop (at + 1) ps
    left = left_at ps at p lt is

    -- the variables of a part that is next
    pub part_variables : HaveVariablesOf t ps → HasVariablesOf t p
    part_variables h = subst (HasVariablesOf t) (sym is) (h at p lt)

    -- the sum goes on with the next part
    pub summed_more : (turned : Bool) (f h : Form) → added_part turned f (part_meant t p) ≡ Ok h → summed turned f (parts_meant t (drop at ps)) ≡ summed turned h (parts_meant t (drop (at + 1) ps))
    unfolding ◌>>=◌
    summed_more turned f h k = ap (λ l. summed turned f (parts_meant t l)) left ∙ by_part turned f (part_meant t p) (parts_meant t (drop (at + 1) ps)) ∙ ap (λ a. a >>= λ h. summed turned h (parts_meant t (drop (at + 1) ps))) k

    pub summed_err : (turned : Bool) (f : Form) (w : Overflow) → added_part turned f (part_meant t p) ≡ Err w → summed turned f (parts_meant t (drop at ps)) ≡ Err w
    unfolding ◌>>=◌
    summed_err turned f w k = ap (λ l. summed turned f (parts_meant t l)) left ∙ by_part turned f (part_meant t p) (parts_meant t (drop (at + 1) ps)) ∙ ap (λ a. a >>= λ h. summed turned h (parts_meant t (drop (at + 1) ps))) k

    -- what is left is strict where the next part is, or the rest
    pub strict_more : (b : Bool) → b ≡ is_strict_part (part_meant t p).relation (part_meant t p).weight → is_strict (parts_meant t (drop at ps)) ≡ b || is_strict (parts_meant t (drop (at + 1) ps))
    unfolding is_strict
    strict_more b k = ap (λ l. is_strict (parts_meant t l)) left ∙ ap (λ b. b || is_strict (parts_meant t (drop (at + 1) ps))) (sym k)

  -- nothing is left
  pub summed_end : (turned : Bool) (f : Form) → length ps ≤ at → summed turned f (parts_meant t (drop at ps)) ≡ Ok f
  unfolding summed
  summed_end turned f h = ap (λ l. summed turned f (parts_meant t l)) (drop_all at ps h)

  pub strict_end : length ps ≤ at → is_strict (parts_meant t (drop at ps)) ≡ false
  unfolding is_strict
  strict_end h = ap (λ l. is_strict (parts_meant t l)) (drop_all at ps h)

-- the form of a difference
untermed_err : {A : Type 0} (t : Term) (a : Answer A) (w : Overflow) → a ≡ Err w → without_term (at_term t a) ≡ Err w
untermed_err t a w e = ap (λ a. without_term (at_term t a)) e

untermed_ok : {A : Type 0} (t : Term) (a : Answer A) (x : A) → a ≡ Ok x → without_term (at_term t a) ≡ Ok x
untermed_ok t a x e = ap (λ a. without_term (at_term t a)) e

module _ (atom s t : Term) where
  opened : (f g : Form) → form s ≡ Ok f → form t ≡ Ok g → difference atom s t ≡ at_term atom (combined subtracting f g)
  unfolding difference ◌>>=◌
  opened f g e k = ap (λ a. a >>= λ f. form t >>= λ g. at_term atom (combined subtracting f g)) e ∙ ap (λ a. a >>= λ g. at_term atom (combined subtracting f g)) k

  pub difference_made : (f g new : Form) → form s ≡ Ok f → form t ≡ Ok g → combined subtracting f g ≡ Ok new → without_term (difference atom s t) ≡ Ok new
  difference_made f g new e k h = ap without_term (opened f g e k) ∙ untermed_ok atom (combined subtracting f g) new h

  pub difference_fails : (f g : Form) (x : FormStop) → form s ≡ Ok f → form t ≡ Ok g → FailsBy (combined subtracting f g) x → FailsBy (without_term (difference atom s t)) x
  difference_fails f g x e k h = fails_on (without_term (difference atom s t)) (combined subtracting f g) x (λ w q. ap without_term (opened f g e k) ∙ untermed_err atom (combined subtracting f g) w q) h

  right_fails : (f : Form) (w : Fault) → form s ≡ Ok f → form t ≡ Err w → without_term (difference atom s t) ≡ Err w.overflow
  unfolding difference ◌>>=◌
  right_fails f w e k = ap (λ a. without_term (a >>= λ f. form t >>= λ g. at_term atom (combined subtracting f g))) e ∙ ap (λ a. without_term (a >>= λ g. at_term atom (combined subtracting f g))) k

  left_fails : (w : Fault) → form s ≡ Err w → without_term (difference atom s t) ≡ Err w.overflow
  unfolding difference ◌>>=◌
  left_fails w e = ap (λ a. without_term (a >>= λ f. form t >>= λ g. at_term atom (combined subtracting f g))) e

  pub left_stops : (table : TableView) (f : FormFault) → Finds table (form s) (Err f) → FailsBy (without_term (difference atom s t)) (stop_by f)
  left_stops table (faults.Wide id w) h = left_fails (fault_meant table id w) h
  left_stops table faults.Memory h = tt

  pub right_stops : (table : TableView) (f : Form) (x : FormFault) → form s ≡ Ok f → Finds table (form t) (Err x) → FailsBy (without_term (difference atom s t)) (stop_by x)
  right_stops table f (faults.Wide id w) e h = right_fails f (fault_meant table id w) e h
  right_stops table f faults.Memory e h = tt

-- verdicts
module _ (ps : List sums.Part) where
  first : (f : Form) (b : Bool) → sum_of false ps ≡ Ok f → cannot_hold (is_strict ps) f ≡ b → judged_parts ps ≡ elim b [ true ↦ Ok tt | false ↦ as_failure (sum_of true ps) >>= λ g. judged_last ps g ]
  unfolding ◌>>=◌
  first f b e h = ap (λ a. as_failure a >>= λ f. judged_first ps f) e ∙ ap {A = Bool} {B = Result (Unit {0}) Failure} (λ b. elim b [ true ↦ Ok tt | false ↦ as_failure (sum_of true ps) >>= λ g. judged_last ps g ]) h

  pub first_taken : (f : Form) → sum_of false ps ≡ Ok f → cannot_hold (is_strict ps) f ≡ true → judged_parts ps ≡ Ok tt
  first_taken f e h = first f true e h

  pub first_fails : (s : FormStop) → FailsBy (sum_of false ps) s → JudgesSum (judged_parts ps) (Err (fault_by s))
  unfolding ◌>>=◌
  first_fails (stops.Wide w) e = ap (λ a. as_failure a >>= λ f. judged_first ps f) e
  first_fails stops.Memory e = tt

  pub goes_on : (f : Form) (r : Result (Unit {0}) ArithFault) → sum_of false ps ≡ Ok f → cannot_hold (is_strict ps) f ≡ false → JudgesSum (judged_turned ps) r → JudgesSum (judged_parts ps) r
  unfolding judged_turned
  goes_on f r e h k = subst (λ a. JudgesSum a r) (sym (first f false e h)) k

  pub turned_taken : (g : Form) (b : Bool) → sum_of true ps ≡ Ok g → cannot_hold (is_strict ps) g ≡ b → judged_turned ps ≡ taken_if b
  unfolding ◌>>=◌ judged_turned
  turned_taken g b k l = ap (λ a. as_failure a >>= λ g. judged_last ps g) k ∙ ap taken_if l

  pub turned_fails : (s : FormStop) → FailsBy (sum_of true ps) s → JudgesSum (judged_turned ps) (Err (fault_by s))
  unfolding ◌>>=◌ judged_turned
  turned_fails (stops.Wide w) k = ap (λ a. as_failure a >>= λ g. judged_last ps g) k
  turned_fails stops.Memory k = tt

-- a sum with a variable left may hold
pub variable_left : (t : TableView) (strict : Bool) (k : Fraction) (vs : List (TermId × Fraction)) → vs ≢ [] → false ≡ cannot_hold strict (form_meant t (record { constant = k; variables = vs }))
variable_left t strict k [] n = absurd (n refl)
variable_left t strict k (v ∷ vs) n = refl

-- the code's two tests are those of the definition
pub test_is : (t : TableView) (ps : List WeightedForm) (strict b : Bool) (f : Form) → strict ≡ is_strict (parts_meant t ps) → b ≡ cannot_hold strict f → cannot_hold (is_strict (parts_meant t ps)) f ≡ b
test_is t ps strict b f e h = ap (λ s. cannot_hold s f) (sym e) ∙ sym h
