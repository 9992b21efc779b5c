-- How two ordered lists of entries are merged.
use Rattle.std.proofs.Common.{◌≡◌, ℕ, suc, ◌<◌, Bool, true, false, List, [], ◌∷◌, ◌++◌, refl, sym, ◌∙◌, ap, arith, cond, ◌==◌, subst, append_assoc}
use Rattle.std.specs.Prelude.{nat_lt}
use Rattle.std.proofs.lemmas.Bool.Decides.{nat_tests}
use Rattle.spec_tableaux.specs.Fields.{Field}
use Rattle.spec_tableaux.specs.Spaces.{as_space}
use Rattle.spec_tableaux.specs.Rows.{Entry, with_entry, put}
use Rattle.spec_tableaux.specs.SolvedForms.{IsTidy, AllVariables}
use Rattle.spec_tableaux.proofs.SolvedForms.{over_put}
use Rattle.tableau.specs.Sums.{put_each}

with_append : {A : Type 0} (s : Field A) (x : ℕ) (c : A) (es : List (Entry A)) → with_entry s x c es ≡ with_entry s x c [] ++ es
with_append s x c es = by (s.is_zero c)
  where
    by : (q : Bool) → cond q es (record { variable = x; coefficient = c } ∷ es) ≡ cond q [] (record { variable = x; coefficient = c } ∷ []) ++ es
    by true = refl
    by false = refl

-- c of x where every variable is greater
put_low : {A : Type 0} (s : Field A) (x : ℕ) (c : A) (es : List (Entry A)) → AllVariables (λ y. x < y) es → put s x c es ≡ with_entry s x c es
put_low s x c [] o = refl
put_low s x c (e ∷ es) o = ap (λ q. cond q (with_entry s x c (e ∷ es)) (cond (x == e.variable) (with_entry s x (s.plus e.coefficient c) es) (e ∷ put s x c es))) (let h = o.0 in let k : nat_lt x e.variable ≡ true = grind (arith, nat_tests) in k)

pub put_high : {A : Type 0} (s : Field A) (x : ℕ) (c : A) (e : Entry A) (es : List (Entry A)) → e.variable < x → put s x c (e ∷ es) ≡ e ∷ put s x c es
put_high s x c e es h =
    (λ i. cond (first i) (with_entry s x c (e ∷ es)) (cond (second i) (with_entry s x (s.plus e.coefficient c) es) (e ∷ put s x c es)))
  where
    first : nat_lt x e.variable ≡ false
    first = grind (arith, nat_tests)

    second : (x == e.variable) ≡ false
    second = grind (arith, nat_tests)

put_same : {A : Type 0} (s : Field A) (x : ℕ) (c : A) (e : Entry A) (es : List (Entry A)) → e.variable ≡ x → put s x c (e ∷ es) ≡ with_entry s x (s.plus e.coefficient c) es
put_same s x c e es h =
    (λ i. cond (first i) (with_entry s x c (e ∷ es)) (cond (second i) (with_entry s x (s.plus e.coefficient c) es) (e ∷ put s x c es)))
  where
    first : nat_lt x e.variable ≡ false
    first = grind (arith, nat_tests)

    second : (x == e.variable) ≡ true
    second = grind (arith, nat_tests)

-- p holds of the variables of a sum where it holds of those of both lists
pub over_each : {A : Type 0} (s : Field A) (w : A → A) (p : ℕ → Type 0) (k : A) (es fs : List (Entry A)) → AllVariables p es → AllVariables p fs → AllVariables p (put_each s w es k fs)
over_each s w p k es [] t u = t
over_each s w p k es (f ∷ fs) t u = over_put (as_space s) p f.variable (w (s.times k f.coefficient)) (put_each s w es k fs) u.0 (over_each s w p k es fs t u.1)

-- the first of es is the least
pub each_first : {A : Type 0} (s : Field A) (w : A → A) (k : A) (e : Entry A) (es fs : List (Entry A)) → AllVariables (λ y. e.variable < y) fs → put_each s w (e ∷ es) k fs ≡ e ∷ put_each s w es k fs
each_first s w k e es [] o = refl
each_first s w k e es (f ∷ fs) o = ap (put s f.variable (w (s.times k f.coefficient))) (each_first s w k e es fs o.1) ∙ put_high s f.variable (w (s.times k f.coefficient)) e (put_each s w es k fs) o.0

-- the first of fs is the least
pub each_second : {A : Type 0} (s : Field A) (w : A → A) (k : A) (f : Entry A) (es fs : List (Entry A)) → AllVariables (λ y. f.variable < y) es → AllVariables (λ y. f.variable < y) fs
    → put_each s w es k (f ∷ fs) ≡ with_entry s f.variable (w (s.times k f.coefficient)) [] ++ put_each s w es k fs
each_second s w k f es fs o u = put_low s f.variable (w (s.times k f.coefficient)) (put_each s w es k fs) (over_each s w (λ y. f.variable < y) k es fs o u) ∙ with_append s _ _ _

-- both are of one variable
pub each_both : {A : Type 0} (s : Field A) (w : A → A) (k : A) (e f : Entry A) (es fs : List (Entry A)) → e.variable ≡ f.variable → AllVariables (λ y. f.variable < y) fs
    → put_each s w (e ∷ es) k (f ∷ fs) ≡ with_entry s f.variable (s.plus e.coefficient (w (s.times k f.coefficient))) [] ++ put_each s w es k fs
each_both s w k e f es fs h u =
    ap (put s f.variable (w (s.times k f.coefficient))) (each_first s w k e es fs (subst (λ x. AllVariables (λ y. x < y) fs) (sym h) u)) ∙ put_same s f.variable (w (s.times k f.coefficient)) e (put_each s w es k fs) h ∙ with_append s _ _ _

-- a tidy list's variables are not below
pub above_from : {A : Type 0} (s : Field A) (at x : ℕ) (es : List (Entry A)) → x < at → IsTidy s at es → AllVariables (λ y. x < y) es
above_from s at x [] h t = tt
above_from s at x (e ∷ es) h t = (omega (arith, t.0), above_from s (suc e.variable) x es (omega (arith, t.0)) t.2)

-- steps of the merge: what was written is O, then N
pub step_second : {A : Type 0} (s : Field A) (w : A → A) (k : A) (f : Entry A) (es O N : List (Entry A)) → AllVariables (λ y. f.variable < y) es → N ≡ O ++ with_entry s f.variable (w (s.times k f.coefficient)) []
    → (later : List (Entry A)) → AllVariables (λ y. f.variable < y) later → O ++ put_each s w es k (f ∷ later) ≡ N ++ put_each s w es k later
step_second s w k f es O N o h later u = ap (λ t. O ++ t) (each_second s w k f es later o u) ∙ sym (append_assoc O _ _) ∙ ap (λ t. t ++ put_each s w es k later) (sym h)

pub step_first : {A : Type 0} (s : Field A) (w : A → A) (k : A) (e f : Entry A) (es rest O N : List (Entry A)) → es ≡ e ∷ rest → e.variable < f.variable → N ≡ O ++ e ∷ []
    → (later : List (Entry A)) → AllVariables (λ y. f.variable < y) later → O ++ put_each s w es k (f ∷ later) ≡ N ++ put_each s w rest k (f ∷ later)
step_first {A = B} s w k e f es rest O N g l h later u =
    ap (λ t. O ++ put_each s w t k (f ∷ later)) g ∙ ap (λ t. O ++ t) (each_first s w k e rest (f ∷ later) (l, higher later u)) ∙ sym (append_assoc O (e ∷ []) _) ∙ ap (λ t. t ++ put_each s w rest k (f ∷ later)) (sym h)
  where
    higher : (fs : List (Entry B)) → AllVariables (λ y. f.variable < y) fs → AllVariables (λ y. e.variable < y) fs
    higher [] u = tt
    higher (x ∷ xs) u = (omega (arith, u.0), higher xs u.1)

pub step_both : {A : Type 0} (s : Field A) (w : A → A) (k : A) (e f : Entry A) (es rest O N : List (Entry A)) → es ≡ e ∷ rest → e.variable ≡ f.variable → N ≡ O ++ with_entry s f.variable (s.plus e.coefficient (w (s.times k f.coefficient))) []
    → (later : List (Entry A)) → AllVariables (λ y. f.variable < y) later → O ++ put_each s w es k (f ∷ later) ≡ N ++ put_each s w rest k later
step_both s w k e f es rest O N g l h later u =
    ap (λ t. O ++ put_each s w t k (f ∷ later)) g ∙ ap (λ t. O ++ t) (each_both s w k e f rest later l u) ∙ sym (append_assoc O _ _) ∙ ap (λ t. t ++ put_each s w rest k later) (sym h)

pub above_all : {A : Type 0} (s : Field A) (at x : ℕ) (e : Entry A) (es rest : List (Entry A)) → es ≡ e ∷ rest → IsTidy s at es → x < e.variable → AllVariables (λ y. x < y) es
above_all s at x e es rest g t h =
    let u : IsTidy s at (e ∷ rest) = subst (IsTidy s at) g t in
    subst (AllVariables (λ y. x < y)) (sym g) (h, above_from s (suc e.variable) x rest (omega arith) u.2)

-- an entry more was written
pub push_step : {A : Type 0} (out new rest whole : List A) (q : A) → new ≡ out ++ q ∷ [] → out ++ q ∷ rest ≡ whole → new ++ rest ≡ whole
push_step out new rest whole q e h = ap (λ z. z ++ rest) e ∙ append_assoc out (q ∷ []) rest ∙ h
