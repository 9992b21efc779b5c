-- What becomes of whole forms, by their constants and their variables.
use Rattle.std.proofs.Common.{◌≡◌, ◌≢◌, ℕ, ◌+◌, ◌<◌, Bool, true, false, List, [], ◌∷◌, ◌++◌, length, take, drop, get_or, Result, Ok, Err, IfOk, IfErr, refl, sym, ◌∙◌, ap, subst}
use Rattle.spec_text.specs.Answers.{◌>>=◌}
use Rattle.spec_numbers.specs.Fractions.{Fraction, opposite}
use Rattle.spec_numbers.specs.Bounds.{Overflow}
use Rattle.spec_sorts.specs.Terms.{Term}
use Rattle.spec_arithmetic.specs.Signs.{is_zero}
use Rattle.spec_arithmetic.specs.Forms.{Answer, Form, Way, with_variable, unless_zero, all_joined, combined, opposites, opposite_form, each_number, changed}
use Rattle.spec_arithmetic.proofs.Zero.{opposite-not_zero}
use Rattle.ratio128.specs.declared.ratio.Ratio.{Ratio}
use Rattle.ratio128.specs.Meant.{fraction}
use Rattle.term_core.specs.declared.ids.TermId.{TermId}
use Rattle.term_core.specs.Tables.{TableView, term_at}
use Rattle.linear_form.specs.declared.stop.FormStop.{FormStop}
use Rattle.linear_form.specs.declared.stop.FormStop.TheVariants as stops
use Rattle.linear_form.specs.Meant.{FormView, form_meant}
use Rattle.linear_form.specs.Entries.{unless_dead, live, variables_meant}
use Rattle.linear_form.specs.Making.{FailsBy, Comes, ReturnsMade}
use Rattle.linear_form.proofs.Indexes.{live-append, live_one, list_at}
use Rattle.linear_form.proofs.Joining.{fails_on}

-- ---- joining

combined_ok : (way : Way) (e f : Form) (c : Fraction) → way.both e.constant f.constant ≡ Ok c → combined way e f ≡ (all_joined way e.variables f.variables >>= λ vs. Ok (record { constant = c; variables = vs }))
unfolding combined ◌>>=◌
combined_ok way e f c h = ap (λ a. a >>= λ c. all_joined way e.variables f.variables >>= λ vs. Ok (record { constant = c; variables = vs })) h

pub combined_err : (way : Way) (e f : Form) (w : Overflow) → way.both e.constant f.constant ≡ Err w → combined way e f ≡ Err w
unfolding combined ◌>>=◌
combined_err way e f w h = ap (λ a. a >>= λ c. all_joined way e.variables f.variables >>= λ vs. Ok (record { constant = c; variables = vs })) h

-- variables after a constant
behind_ok : (c : Fraction) (a : Answer (List (Term × Fraction))) (vs : List (Term × Fraction)) → a ≡ Ok vs → (a >>= λ vs. Ok (let f : Form = record { constant = c; variables = vs } in f)) ≡ Ok (record { constant = c; variables = vs })
unfolding ◌>>=◌
behind_ok c a vs e = ap (λ a. a >>= λ vs. Ok (let f : Form = record { constant = c; variables = vs } in f)) e

behind_err : (c : Fraction) (a : Answer (List (Term × Fraction))) (w : Overflow) → a ≡ Err w → (a >>= λ vs. Ok (let f : Form = record { constant = c; variables = vs } in f)) ≡ Err w
unfolding ◌>>=◌
behind_err c a w e = ap (λ a. a >>= λ vs. Ok (let f : Form = record { constant = c; variables = vs } in f)) e

pub combined_comes : (way : Way) (e f : Form) (c : Fraction) (r : Result (Unit {0}) FormStop) (vs : List (Term × Fraction)) → way.both e.constant f.constant ≡ Ok c
    → Comes (all_joined way e.variables f.variables) r vs → Comes (combined way e f) r (record { constant = c; variables = vs })
combined_comes way e f c (Ok u) vs h k = combined_ok way e f c h ∙ behind_ok c (all_joined way e.variables f.variables) vs k
combined_comes way e f c (Err s) vs h k = fails_on (combined way e f) (all_joined way e.variables f.variables) s (λ w g. combined_ok way e f c h ∙ behind_err c (all_joined way e.variables f.variables) w g) k

-- ---- changing

changed_ok : (change : Fraction → Answer Fraction) (f : Form) (c : Fraction) → change f.constant ≡ Ok c → changed change f ≡ (each_number change f.variables >>= λ vs. Ok (record { constant = c; variables = vs }))
unfolding changed ◌>>=◌
changed_ok change f c h = ap (λ a. a >>= λ c. each_number change f.variables >>= λ vs. Ok (record { constant = c; variables = vs })) h

pub changed_err : (change : Fraction → Answer Fraction) (f : Form) (w : Overflow) → change f.constant ≡ Err w → changed change f ≡ Err w
unfolding changed ◌>>=◌
changed_err change f w h = ap (λ a. a >>= λ c. each_number change f.variables >>= λ vs. Ok (record { constant = c; variables = vs })) h

pub changed_makes : (change : Fraction → Answer Fraction) (f : Form) (c : Fraction) (vs : List (Term × Fraction)) → change f.constant ≡ Ok c → each_number change f.variables ≡ Ok vs → changed change f ≡ Ok (record { constant = c; variables = vs })
changed_makes change f c vs h k = changed_ok change f c h ∙ behind_ok c (each_number change f.variables) vs k

pub changed_fails : (change : Fraction → Answer Fraction) (f : Form) (c : Fraction) (s : FormStop) → change f.constant ≡ Ok c → FailsBy (each_number change f.variables) s → FailsBy (changed change f) s
changed_fails change f c s h k = fails_on (changed change f) (each_number change f.variables) s (λ w g. changed_ok change f c h ∙ behind_err c (each_number change f.variables) w g) k

-- of numbers other than 0 the negatives are others than 0
each_opposite : (t : TableView) (ps : List (TermId × Ratio)) → each_number (λ k. Ok (opposite k)) (variables_meant t (live ps)) ≡ Ok (opposites (variables_meant t (live ps)))
unfolding each_number ◌>>=◌
each_opposite t [] = refl
each_opposite t (p ∷ ps) = by (is_zero (fraction p.1)) refl (each_opposite t ps)
  where
    by : (b : Bool) → is_zero (fraction p.1) ≡ b → each_number (λ k. Ok (opposite k)) (variables_meant t (live ps)) ≡ Ok (opposites (variables_meant t (live ps)))
        → each_number (λ k. Ok (opposite k)) (variables_meant t (unless_dead b p.0 (fraction p.1) (live ps))) ≡ Ok (opposites (variables_meant t (unless_dead b p.0 (fraction p.1) (live ps))))
    by true e h = h
    by false e h =
        ap (λ a. a >>= λ r. Ok (with_variable (term_at t p.0) (opposite (fraction p.1)) r)) h
        ∙ ap (λ b. Ok (unless_zero b (term_at t p.0) (opposite (fraction p.1)) (opposites (variables_meant t (live ps))))) (opposite-not_zero (fraction p.1) e)

each_same : (t : TableView) (ps : List (TermId × Ratio)) → each_number (λ k. Ok k) (variables_meant t (live ps)) ≡ Ok (variables_meant t (live ps))
unfolding each_number ◌>>=◌
each_same t [] = refl
each_same t (p ∷ ps) = by (is_zero (fraction p.1)) refl (each_same t ps)
  where
    by : (b : Bool) → is_zero (fraction p.1) ≡ b → each_number (λ k. Ok k) (variables_meant t (live ps)) ≡ Ok (variables_meant t (live ps))
        → each_number (λ k. Ok k) (variables_meant t (unless_dead b p.0 (fraction p.1) (live ps))) ≡ Ok (variables_meant t (unless_dead b p.0 (fraction p.1) (live ps)))
    by true e h = h
    by false e h =
        ap (λ a. a >>= λ r. Ok (with_variable (term_at t p.0) (fraction p.1) r)) h
        ∙ ap (λ b. Ok (unless_zero b (term_at t p.0) (fraction p.1) (variables_meant t (live ps)))) e

-- a form of live entries
abbrev pub view_of : Fraction → List (TermId × Ratio) → FormView
view_of c ps = record { constant = c; variables = live ps }

opposite_by : (t : TableView) (c : Fraction) (ps : List (TermId × Ratio)) → changed (λ k. Ok (opposite k)) (form_meant t (view_of c ps)) ≡ Ok (opposite_form (form_meant t (view_of c ps)))
opposite_by t c ps = changed_makes (λ k. Ok (opposite k)) (form_meant t (view_of c ps)) (opposite c) (opposites (variables_meant t (live ps))) refl (each_opposite t ps)

same_by : (t : TableView) (c : Fraction) (ps : List (TermId × Ratio)) → changed (λ k. Ok k) (form_meant t (view_of c ps)) ≡ Ok (form_meant t (view_of c ps))
same_by t c ps = changed_makes (λ k. Ok k) (form_meant t (view_of c ps)) c (variables_meant t (live ps)) refl (each_same t ps)

-- as the code's view has them
pub changed_opposite : (t : TableView) (c : Fraction) (ps : List (TermId × Ratio)) (v : FormView) → view_of c ps ≡ v → changed (λ k. Ok (opposite k)) (form_meant t v) ≡ Ok (opposite_form (form_meant t v))
changed_opposite t c ps v e = subst (λ (v : FormView). changed (λ k. Ok (opposite k)) (form_meant t v) ≡ Ok (opposite_form (form_meant t v))) e (opposite_by t c ps)

pub changed_same : (t : TableView) (c : Fraction) (ps : List (TermId × Ratio)) (v : FormView) → view_of c ps ≡ v → changed (λ k. Ok k) (form_meant t v) ≡ Ok (form_meant t v)
changed_same t c ps v e = subst (λ (v : FormView). changed (λ k. Ok k) (form_meant t v) ≡ Ok (form_meant t v)) e (same_by t c ps)

pub makes_as : (a b : Answer Form) (r : Result FormView FormStop) (meant : FormView → Form) → a ≡ b → ReturnsMade a r meant → ReturnsMade b r meant
makes_as a b r meant e h = subst (λ x. ReturnsMade x r meant) e h

-- what always comes fails by memory alone
pub made_alone : (a : TableView → Form) (r : Result FormView FormStop) → ((t : TableView) → ReturnsMade (let x : Answer Form = Ok (a t) in x) r (form_meant t)) → IfOk r (λ g. (t : TableView) → form_meant t g ≡ a t)
made_alone a (Ok g) h = λ t. by t (h t)
  where
    by : (t : TableView) → (let x : Answer Form = Ok (a t) in x) ≡ Ok (form_meant t g) → form_meant t g ≡ a t
    by t e = cc
made_alone a (Err s) h = tt

pub stops_alone : (a : Form) (t : TableView) (r : Result FormView FormStop) → ReturnsMade (let x : Answer Form = Ok a in x) r (form_meant t) → IfErr r (λ e. e ≡ stops.Memory)
stops_alone a t (Ok g) h = tt
stops_alone a t (Err stops.Memory) h = refl
stops_alone a t (Err (stops.Wide w)) h = cc

-- some table
abbrev pub no_table : TableView
no_table = record { sorts = []; symbols = []; terms = [] }

-- ---- live entries

not_nil : {A : Type 0} (xs : List A) (y : A) (ys : List A) → xs ++ y ∷ ys ≢ []
not_nil [] y ys e = cc
not_nil (x ∷ xs) y ys e = cc

pub some_live : (ps : List (TermId × Ratio)) (at : ℕ) (p : TermId × Ratio) → at < length ps → p ≡ get_or ps at p → is_zero (fraction p.1) ≡ false → live ps ≢ []
some_live ps at p lt e n h =
    not_nil (live (take at ps)) (p.0, fraction p.1) (live (drop (at + 1) ps))
    (sym (ap live (list_at ps at p lt e) ∙ live-append (take at ps) (p ∷ drop (at + 1) ps) ∙ ap (λ l. live (take at ps) ++ l) (live-append (p ∷ []) (drop (at + 1) ps) ∙ ap (λ l. l ++ live (drop (at + 1) ps)) (live_one p.0 p.1 n))) ∙ h)
