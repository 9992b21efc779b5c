-- Weighted sums of forms that compare with 0 as their parts do, so that none is a contradiction.
use Rattle.std.proofs.Common.{◌≡◌, zero, suc, ◌<◌, Bool, true, false, ◌||◌, ◌&&◌, List, [], ◌∷◌, Result, Ok, Err, ℤ, pos, negsuc, ◌≤ℤ◌, ◌<ℤ◌, unsigned_abs, refl, sym, ◌∙◌, ap, subst, arith, true≢false}
use Rattle.std.specs.Ordering.{int_eq}
use Rattle.std.specs.Int.RustNames.{int_lt}
use Rattle.std.proofs.Math.Bool.{or_assoc, or-false}
use Rattle.std.proofs.lemmas.Bool.{not-true}
use Rattle.std.proofs.lemmas.Bool.Decides.{nat_tests}
use Rattle.std.proofs.lemmas.Int.{ints}
use Rattle.spec_text.specs.Answers.{◌>>=◌}
use Rattle.spec_text.proofs.AnswerLaws.{went}
use Rattle.spec_numbers.specs.Fractions.{Fraction, zero_fraction, times, IsReduced}
use Rattle.spec_numbers.proofs.Field.{opposite-reduced, zero-reduced}
use Rattle.spec_sorts.specs.Terms.{Term}
use Rattle.spec_arithmetic.specs.Signs.{is_zero, is_above_zero, size}
use Rattle.spec_arithmetic.specs.Forms.{Answer, Form, constant_form, adding, combined, scaled, form_value}
use Rattle.spec_arithmetic.specs.Contradictions.{Relation, is_nought, is_below, is_at_most, Part, weight_by, summed, sum_of, is_strict_part, is_strict, cannot_hold, Failure, as_failure, taken_if, judged_last, judged_first, judged_parts}
use Rattle.spec_arithmetic.proofs.General.{same_ok}
use Rattle.spec_arithmetic.proofs.Zero.{zero_num, times-zero}
use Rattle.spec_arithmetic.proofs.Differences.{IsAtMostZero, IsBelowZero, zero-at_most, below-at_most, plus-at_most, plus-below_left, plus-below_right, times-at_most, times-below}
use Rattle.spec_arithmetic.proofs.FormValues.{IsProper, adding_fair, combined_value, scaled_value, form_value_reduced}
use Rattle.spec_arithmetic.proofs.FormTerms.{constant_value}
use Rattle.spec_arithmetic.proofs.Denials.{IsRelated}

-- A part whose form compares with 0 as it says.
pub record IsPart (n : Term → Fraction) (p : Part) : Type 0 where
  pub is_related : IsRelated p.relation (form_value n p.form)
  pub proper : IsProper n p.form
  pub weight : IsReduced p.weight

-- and each of the parts
abbrev pub AreParts : (Term → Fraction) → List Part → Type 0
AreParts n [] = Unit {0}
AreParts n (p ∷ ps) = IsPart n p × AreParts n ps

-- by what a part is multiplied
pub size_positive : (c : Fraction) → is_zero c ≡ false → 0 < unsigned_abs c.num
unfolding is_zero
size_positive c e = by c.num e
  where
    by : (z : ℤ) → int_eq z (pos 0) ≡ false → 0 < unsigned_abs z
    by (pos zero) e = absurd (true≢false e)
    by (pos (suc n)) e = omega arith
    by (negsuc n) e = omega arith

weight_positive : (turned : Bool) (r : Relation) (c : Fraction) → IsReduced c → 0 < (weight_by turned r c).den
unfolding size
weight_positive true is_nought c h = (opposite-reduced c h).positive
weight_positive false is_nought c h = h.positive
weight_positive true is_below c h = h.positive
weight_positive false is_below c h = h.positive
weight_positive true is_at_most c h = h.positive
weight_positive false is_at_most c h = h.positive

zero_product : (c x : Fraction) → 0 < c.den → x ≡ zero_fraction → IsAtMostZero (times c x)
zero_product c x p h = subst IsAtMostZero (sym (ap (times c) h ∙ times-zero c p)) zero-at_most

weighted : (turned : Bool) (r : Relation) (c x : Fraction) → IsReduced c → IsRelated r x → IsAtMostZero (times (weight_by turned r c) x)
unfolding size
weighted true is_nought c x k h = zero_product _ x (weight_positive true is_nought c k) h
weighted false is_nought c x k h = zero_product _ x (weight_positive false is_nought c k) h
weighted true is_below c x k h = times-at_most _ x (unsigned_abs c.num) refl (below-at_most x h)
weighted false is_below c x k h = times-at_most _ x (unsigned_abs c.num) refl (below-at_most x h)
weighted true is_at_most c x k h = times-at_most _ x (unsigned_abs c.num) refl h
weighted false is_at_most c x k h = times-at_most _ x (unsigned_abs c.num) refl h

weighted_strictly : (turned : Bool) (r : Relation) (c x : Fraction) → IsRelated r x → is_strict_part r c ≡ true → IsBelowZero (times (weight_by turned r c) x)
unfolding size
weighted_strictly turned is_nought c x h e = absurd (true≢false (sym e))
weighted_strictly turned is_at_most c x h e = absurd (true≢false (sym e))
weighted_strictly true is_below c x h e = times-below _ x (unsigned_abs c.num) refl (size_positive c (not-true _ e)) h
weighted_strictly false is_below c x h e = times-below _ x (unsigned_abs c.num) refl (size_positive c (not-true _ e)) h

-- A sum that compares with 0 as its parts do.
pub record IsSum (n : Term → Fraction) (strict : Bool) (f : Form) : Type 0 where
  pub proper : IsProper n f
  pub at_most : IsAtMostZero (form_value n f)
  pub below : strict ≡ true → IsBelowZero (form_value n f)

one_more : (n : Term → Fraction) (turned before : Bool) (f : Form) (p : Part) (g h : Form) → scaled (weight_by turned p.relation p.weight) p.form ≡ Ok g → combined adding f g ≡ Ok h
    → IsPart n p → IsSum n before f → IsSum n (before || is_strict_part p.relation p.weight) h
one_more n turned before f p g h e1 e2 part s =
    let x = form_value n p.form in
    let c = scaled_value n (weight_by turned p.relation p.weight) p.form g e1 (weight_positive turned p.relation p.weight part.weight) part.proper in
    let d = combined_value n adding adding_fair f g h e2 s.proper c.proper in
    let g_at_most : IsAtMostZero (form_value n g) = subst IsAtMostZero (sym c.value) (weighted turned p.relation p.weight x part.weight part.is_related) in
    let positive_f = (form_value_reduced n f s.proper).positive in
    let positive_g = (form_value_reduced n g c.proper).positive in
    record {
      proper = d.proper;
      at_most = subst IsAtMostZero (sym d.value) (plus-at_most (form_value n f) (form_value n g) s.at_most g_at_most);
      below = λ e. subst IsBelowZero (sym d.value) (either before (is_strict_part p.relation p.weight) e
          (λ b. plus-below_left (form_value n f) (form_value n g) (s.below b) g_at_most positive_g)
          (λ b. plus-below_right (form_value n f) (form_value n g) s.at_most (subst IsBelowZero (sym c.value) (weighted_strictly turned p.relation p.weight x part.is_related b)) positive_f));
    }
  where
    either : {P : Type 0} (a b : Bool) → a || b ≡ true → (a ≡ true → P) → (b ≡ true → P) → P
    either true b e f g = f refl
    either false b e f g = g e

sum_related : (n : Term → Fraction) (turned before : Bool) (f : Form) (ps : List Part) (r : Form) → summed turned f ps ≡ Ok r → AreParts n ps → IsSum n before f → IsSum n (before || is_strict ps) r
unfolding summed is_strict
sum_related n turned before f [] r e h s = subst (λ b. IsSum n b r) (sym (or-false before)) (subst (IsSum n before) (same_ok _ _ e) s)
sum_related n turned before f (p ∷ ps) r e h s =
    let a = went (scaled (weight_by turned p.relation p.weight) p.form) (λ g. combined adding f g >>= λ k. summed turned k ps) r e in
    let b = went (combined adding f a.first) (λ k. summed turned k ps) r a.then in
    let strict = is_strict_part p.relation p.weight in
    subst (λ b. IsSum n b r) (or_assoc before strict (is_strict ps))
    (sum_related n turned (before || strict) b.first ps r b.then h.1 (one_more n turned before f p a.first b.first a.was b.was h.0 s))

-- no such sum is a contradiction
above_not : (c : Fraction) → IsAtMostZero c → is_above_zero c ≡ true → ⊥
unfolding is_above_zero
above_not c h e = by c.num h.num e
  where
    by : (z : ℤ) → z ≤ℤ pos 0 → int_lt (pos 0) z ≡ true → ⊥
    by z h e = grind (arith, nat_tests)

zero_not : (c : Fraction) → IsBelowZero c → is_zero c ≡ true → ⊥
zero_not c h e = by c.num h.num (zero_num c e)
  where
    by : (z : ℤ) → z <ℤ pos 0 → z ≡ pos 0 → ⊥
    by z h e = omega (arith, ints)

holds_not : (n : Term → Fraction) (strict : Bool) (c : Fraction) (vs : List (Term × Fraction)) → IsSum n strict (record { constant = c; variables = vs })
    → cannot_hold strict (record { constant = c; variables = vs }) ≡ true → ⊥
holds_not n strict c (x ∷ xs) s e = absurd (true≢false (sym e))
holds_not n strict c [] s e =
    let is = constant_value n c s.proper.constant in
    cases (is_above_zero c) (is_zero c) strict e (above_not c (subst IsAtMostZero is s.at_most)) (λ b z. zero_not c (subst IsBelowZero is (s.below b)) z)
  where
    cases : (a z b : Bool) → a || (z && b) ≡ true → (a ≡ true → ⊥) → (b ≡ true → z ≡ true → ⊥) → ⊥
    cases true z b e f g = f refl
    cases false true true e f g = g refl refl
    cases false true false e f g = absurd (true≢false (sym e))
    cases false false b e f g = absurd (true≢false (sym e))

-- the sum that begins as 0
start : (n : Term → Fraction) → IsSum n false (constant_form zero_fraction)
start n = record {
  proper = record { constant = zero-reduced; variables = tt };
  at_most = subst IsAtMostZero (sym (constant_value n zero_fraction zero-reduced)) zero-at_most;
  below = λ e. absurd (true≢false (sym e));
}

pub as_ok : {A : Type 0} (a : Answer A) (r : A) → as_failure a ≡ Ok r → a ≡ Ok r
as_ok (Ok a) r e = cc
as_ok (Err w) r e = cc

-- parts that hold are no contradiction, neither as given nor turned
pub judged_not : (n : Term → Fraction) (ps : List Part) → AreParts n ps → judged_parts ps ≡ Ok tt → ⊥
judged_not n ps h e =
    let a = went (as_failure (sum_of false ps)) (λ f. judged_first ps f) tt e in
    first a.first (is_related false a.first a.was) (cannot_hold (is_strict ps) a.first) refl a.then
  where
    is_related : (turned : Bool) (f : Form) → as_failure (sum_of turned ps) ≡ Ok f → IsSum n (is_strict ps) f
    is_related turned f e = sum_related n turned false (constant_form zero_fraction) ps f (as_ok _ _ e) h (start n)

    last : (f : Form) → IsSum n (is_strict ps) f → (b : Bool) → cannot_hold (is_strict ps) f ≡ b → taken_if b ≡ Ok tt → ⊥
    last f s true c e = holds_not n (is_strict ps) f.constant f.variables s c
    last f s false c e = cc

    first : (f : Form) → IsSum n (is_strict ps) f → (b : Bool) → cannot_hold (is_strict ps) f ≡ b
        → (let r : Result (Unit {0}) Failure = elim b [ true ↦ Ok tt | false ↦ as_failure (sum_of true ps) >>= λ g. judged_last ps g ] in r) ≡ Ok tt → ⊥
    first f s true c e = holds_not n (is_strict ps) f.constant f.variables s c
    first f s false c e =
        let a = went (as_failure (sum_of true ps)) (λ g. judged_last ps g) tt e in
        last a.first (is_related true a.first a.was) (cannot_hold (is_strict ps) a.first) refl a.then
