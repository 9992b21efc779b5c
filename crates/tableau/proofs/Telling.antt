-- Overflows that are reported to callers.
use Rattle.std.proofs.Common.{◌≡◌, ℕ, Bool, false, List, [], ◌∷◌, Contains, Result, Ok, Err, IfOk, IfErr, OnOk, is_err, true≢false, IsErrAnd, inl, inr, refl, sym, subst, arith}
use Rattle.std.proofs.lemmas.List.Elements.{Contains-push_cases}
use Rattle.spec_numbers.specs.Bounds.{Overflow, added, multiplied}
use Rattle.spec_tableaux.specs.Rows.{Entry}
use Rattle.spec_tableaux.specs.CheckOverflows.{Overflows}
use Rattle.spec_tableaux.specs.Numbers.{Number, numbers}
use Rattle.ratio128.specs.declared.wide.Wide.{Wide as WideType}
use Rattle.ratio128.specs.Meant.{overflow}
use Rattle.tableau.specs.declared.stops.RowStop.{RowStop}
use Rattle.tableau.specs.declared.stops.RowStop.TheVariants.{Wide, Memory}
use Rattle.tableau.specs.Views.{OnRowOverflow}
use Rattle.tableau.specs.Sums.{OverflowsCombined, OverflowsPut, operation, in_product, in_sum, IsLeft}

-- an overflow that is reported
pub told_wide : {T : Type 0} (p : Overflow → Type 0) (r : Result T RowStop) (w : WideType) → IsErrAnd r (λ e. e ≡ Wide w) → p (overflow w) → IfErr r (OnRowOverflow p)
told_wide p (Ok x) w g h = tt
told_wide p (Err e) w g h = subst (OnRowOverflow p) (sym g) h

wide_as : (p q : Overflow → Type 0) (e : RowStop) → ((o : Overflow) → p o → q o) → OnRowOverflow p e → OnRowOverflow q e
wide_as p q (Wide w) f h = f (overflow w) h
wide_as p q Memory f h = tt

-- one that is passed on
pub passed_on : {T : Type 0} (p q : Overflow → Type 0) (r : Result T RowStop) (s : RowStop) → ((o : Overflow) → p o → q o) → IsErrAnd r (λ e. e ≡ s) → OnRowOverflow p s → IfErr r (OnRowOverflow q)
passed_on p q (Ok x) s f g h = tt
passed_on p q (Err e) s f g h = wide_as p q e f (subst (OnRowOverflow p) (sym g) h)

none : (h : Entry Number) → Contains [] h → ⊥
none h c = omega (arith, c.1)

one_alone : (g h : Entry Number) → Contains (g ∷ []) h → h ≡ g
one_alone g h c = elim (Contains-push_cases [] g h c) [ inl o ↦ absurd (none h o) | inr is ↦ sym is ]

-- a step's overflow is one of the whole
pub combined_more : (minus : Bool) (es left gs : List (Entry Number)) (k : Number) (g : Entry Number) (o : Overflow) → IsLeft es left → Contains gs g
    → OverflowsCombined minus left k (g ∷ []) o → OverflowsCombined minus es k gs o
combined_more minus es left gs k g o l c (in_product h d w) = in_product h (subst (Contains gs) (sym (one_alone g h d)) c) w
combined_more minus es left gs k g o l c (in_sum h d e there same w) = in_sum h (subst (Contains gs) (sym (one_alone g h d)) c) e (l e there) same w

-- a product with the first entry of a list, or a sum with an entry of another
pub combined_product : (minus : Bool) (es : List (Entry Number)) (k : Number) (g : Entry Number) (o : Overflow) → Overflows multiplied k g.coefficient o → OverflowsCombined minus es k (g ∷ []) o
combined_product minus es k g o w = in_product g (0, omega arith, refl) w

pub combined_sum : (minus : Bool) (es rest : List (Entry Number)) (k : Number) (e g : Entry Number) (p : Number) (o : Overflow) → es ≡ e ∷ rest → e.variable ≡ g.variable → p ≡ numbers.times k g.coefficient
    → Overflows (operation minus) e.coefficient p o → OverflowsCombined minus es k (g ∷ []) o
combined_sum minus es rest k e g p o l v q w =
    in_sum g (0, omega arith, refl) e (subst (λ (z : List (Entry Number)). Contains z e) (sym l) (0, omega arith, refl)) v (subst (λ z. Overflows (operation minus) e.coefficient z o) q w)

-- a sum with the first entry that is left
pub put_sum : (whole left rest : List (Entry Number)) (x : ℕ) (c : Number) (e : Entry Number) (o : Overflow) → IsLeft whole left → left ≡ e ∷ rest → e.variable ≡ x → Overflows added e.coefficient c o → OverflowsPut whole x c o
put_sum whole left rest x c e o l g v w = record { entry = e; there = l e (subst (λ (z : List (Entry Number)). Contains z e) (sym g) (0, omega arith, refl)); same = v; wide = w }

-- an overflow that a call tells, for another reason
pub err_as : {T : Type 0} (p q : Overflow → Type 0) (r : Result T RowStop) → ((o : Overflow) → p o → q o) → IfErr r (OnRowOverflow p) → IfErr r (OnRowOverflow q)
err_as p q (Ok x) f h = tt
err_as p q (Err e) f h = wide_as p q e f h

-- what holds of a result, for another reason
pub ok_as : {T E : Type 0} (p q : T → Type 0) (r : Result T E) → ((x : T) → p x → q x) → IfOk r p → IfOk r q
ok_as p q (Ok x) f h = f x h
ok_as p q (Err e) f h = tt

-- a call that did not fail
pub not_err : {T E : Type 0} (r : Result T E) (p : Type 0) → is_err r ≡ false → OnOk r p → p
not_err (Ok x) p e h = h
not_err (Err x) p e h = absurd (true≢false e)
