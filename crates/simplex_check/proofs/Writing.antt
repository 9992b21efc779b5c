-- Changes that are written.
use Rattle.std.proofs.Common.{◌≡◌, ℕ, ◌<◌, Bool, true, false, List, [], ◌∷◌, ◌++◌, length, map, slice_set, refl, sym, ◌∙◌, ap, arith, cond, ◌==◌, ◌||◌, subst}
use Rattle.std.proofs.lemmas.Bool.Decides.{nat_tests}
use Rattle.std.proofs.Math.Bool.{or-true}
use Rattle.delta_num.specs.declared.delta.Delta.{Delta}
use Rattle.spec_tableaux.specs.Spaces.{Pair}
use Rattle.spec_tableaux.specs.Numbers.{Number}
use Rattle.spec_tableaux.proofs.Steps.{same_eqb}
use Rattle.simplex_bounds.specs.Deltas.{pair_of}
use Rattle.spec_tableaux.specs.Points.{point_in}
use Rattle.simplex_check.specs.Changes.{is_changed, written, ChangesAreBelow, ComeTo}
use Rattle.simplex_check.specs.declared.changes.ValueChange.{ValueChange}
use Rattle.simplex_check.proofs.Points.{same_point, point_set}

-- the first change is known, and so are the others
pub known_first : (n : ℕ) (c : ValueChange) (rest more : List ValueChange) → rest ≡ c ∷ more → ChangesAreBelow n rest → (c.variable < n) × ChangesAreBelow n more
known_first n c rest more e h = subst (ChangesAreBelow n) e h

-- the first change is made
pub written_step : (vs : List Delta) (c : ValueChange) (rest more : List ValueChange) (w : ℕ → Pair Number) → rest ≡ c ∷ more → c.variable < length vs
    → ((y : ℕ) → written rest (point_in (map pair_of vs)) y ≡ w y) → (y : ℕ) → written more (point_in (map pair_of (slice_set vs c.variable c.value))) y ≡ w y
written_step vs c rest more w e h k y =
    ap (λ u. written more u y) (same_point (point_in (map pair_of (slice_set vs c.variable c.value))) (λ z. cond (z == c.variable) (pair_of c.value) (point_in (map pair_of vs) z)) (λ z. point_set vs c.variable z c.value h))
    ∙ ap (λ cs. written cs (point_in (map pair_of vs)) y) (sym e) ∙ k y

-- changes that lead to a point, once they are written
pub written_leads : (v w : ℕ → Pair Number) (cs : List ValueChange) → ComeTo w cs → ((y : ℕ) → is_changed y cs ≡ false → w y ≡ v y) → (y : ℕ) → written cs v y ≡ w y
written_leads v w [] come o y = sym (o y refl)
written_leads v w (c ∷ cs) come o y = written_leads (λ z. cond (z == c.variable) (pair_of c.value) (v z)) w cs come.1 (λ z h. by z h (z == c.variable) refl) y
  where
    by : (z : ℕ) → is_changed z cs ≡ false → (q : Bool) → (z == c.variable) ≡ q → w z ≡ cond (z == c.variable) (pair_of c.value) (v z)
    by z h true e = (let s : z ≡ c.variable = grind (arith, nat_tests) in ap w s) ∙ sym come.0 ∙ ap (λ p. cond p (pair_of c.value) (v z)) (sym e)
    by z h false e = o z (ap (λ p. p || is_changed z cs) e ∙ h) ∙ ap (λ p. cond p (pair_of c.value) (v z)) (sym e)

pub known_push : (n : ℕ) (cs : List ValueChange) (c : ValueChange) → ChangesAreBelow n cs → c.variable < n → ChangesAreBelow n (cs ++ c ∷ [])
known_push n [] c h k = (k, tt)
known_push n (d ∷ cs) c h k = (h.0, known_push n cs c h.1 k)

pub come_push : (w : ℕ → Pair Number) (cs : List ValueChange) (c : ValueChange) → ComeTo w cs → pair_of c.value ≡ w c.variable → ComeTo w (cs ++ c ∷ [])
come_push w [] c h k = (k, tt)
come_push w (d ∷ cs) c h k = (h.0, come_push w cs c h.1 k)

pub changed_push : (y : ℕ) (cs : List ValueChange) (c : ValueChange) → is_changed y cs ≡ true → is_changed y (cs ++ c ∷ []) ≡ true
changed_push y [] c h = absurd (cc)
changed_push y (d ∷ cs) c h = by (λ k. changed_push y cs c k) (y == d.variable) refl
  where
    by : (is_changed y cs ≡ true → is_changed y (cs ++ c ∷ []) ≡ true) → (q : Bool) → (y == d.variable) ≡ q → (y == d.variable || is_changed y (cs ++ c ∷ [])) ≡ true
    by f true e = ap (λ p. p || is_changed y (cs ++ c ∷ [])) e
    by f false e = ap (λ p. y == d.variable || p) (f (ap (λ p. p || is_changed y cs) (sym e) ∙ h)) ∙ or-true (y == d.variable)

pub changed_last : (y : ℕ) (cs : List ValueChange) (c : ValueChange) → c.variable ≡ y → is_changed y (cs ++ c ∷ []) ≡ true
changed_last y [] c e = ap (λ p. p || false) (ap (λ z. y == z) e ∙ same_eqb y)
changed_last y (d ∷ cs) c e = ap (λ p. y == d.variable || p) (changed_last y cs c e) ∙ or-true (y == d.variable)
