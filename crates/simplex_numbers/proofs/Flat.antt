-- Values that keep bounds at a number in the place of the infinitesimal keep them as numbers.
use Rattle.std.proofs.Common.{◌≡◌, ℕ, zero, suc, Bool, true, false, not, ◌||◌, List, [], ◌∷◌, map, Contains, Option, Some, None, refl, sym, ◌∙◌, ap, subst, true≢false}
use Rattle.std.proofs.lemmas.Bool.{not-true, or_parts}
use Rattle.spec_tableaux.specs.Fields.{is_positive}
use Rattle.spec_tableaux.specs.Spaces.{Pair, as_space}
use Rattle.spec_tableaux.specs.Rows.{Row, Solves}
use Rattle.spec_tableaux.specs.Ranges.{is_within, below, above}
use Rattle.spec_tableaux.specs.Numbers.{Number, numbers}
use Rattle.spec_tableaux.proofs.PairSolutions.{parts_pair}
use Rattle.simplex_bounds.specs.declared.bounds.Bound.{Bound}
use Rattle.simplex_bounds.specs.declared.bounds.Side.{Side}
use Rattle.simplex_bounds.specs.declared.bounds.Side.TheVariants.{Lower, Upper}
use Rattle.simplex_bounds.specs.Deltas.{pair_of}
use Rattle.spec_tableaux.specs.Points.{deltas, point_in}
use Rattle.simplex_bounds.specs.Held.{strongest, value_in, ranges_in}
use Rattle.simplex_bounds.proofs.Keeping.{strongest_is_held}
use Rattle.simplex_explain.proofs.Refuting.{zero_solves}
use Rattle.simplex_numbers.specs.Values.{bound_at, flat, IsInward, KeepsAt}
use Rattle.spec_tableaux.specs.Halves.{at_number, is_less}
use Rattle.simplex_numbers.proofs.Orders.{level_stays}
use Rattle.spec_causes.proofs.AtNumbers.{base_at}
use Rattle.simplex_numbers.proofs.Rows.{rows_at}

-- values solve rows as numbers where they do as pairs
pub flat_solves : (e : Number) (v : ℕ → Pair Number) (rs : List (Row Number)) → Solves deltas v rs → Solves deltas (λ y. flat (at_number e (v y))) rs
flat_solves e v rs h = parts_pair numbers (λ y. flat (at_number e (v y))) rs (rows_at e v rs h) (zero_solves rs)

-- the point of the numbers
pub flat_point : (e : Number) (vs : List (Pair Number)) (y : ℕ) → point_in (map (λ x. flat (at_number e x)) vs) y ≡ flat (at_number e (point_in vs y))
flat_point e [] y = sym (ap flat (base_at e numbers.zero))
flat_point e (v ∷ vs) zero = refl
flat_point e (v ∷ vs) (suc y) = flat_point e vs y

module _ (e : Number) (p : is_positive numbers e ≡ true) where
  lower_kept : (x : Number) (b : Pair Number) → IsInward Lower b.tilt → is_less x (at_number e b) ≡ false → deltas.less (flat x) b ≡ false
  lower_kept x b t h = by (deltas.less (flat x) b) refl
    where
      by : (q : Bool) → deltas.less (flat x) b ≡ q → q ≡ false
      by true k = absurd (true≢false (sym (level_stays (flat x) b e p t k) ∙ ap (λ (n : Number). is_less n (at_number e b)) (base_at e x) ∙ h))
      by false k = refl

  upper_kept : (x : Number) (b : Pair Number) → IsInward Upper b.tilt → is_less (at_number e b) x ≡ false → deltas.less b (flat x) ≡ false
  upper_kept x b t h = by (deltas.less b (flat x)) refl
    where
      by : (q : Bool) → deltas.less b (flat x) ≡ q → q ≡ false
      by true k = absurd (true≢false (sym (level_stays b (flat x) e p t k) ∙ ap (is_less (at_number e b)) (base_at e x) ∙ h))
      by false k = refl

  below_kept : (x : Number) (o : Option Bound) → ((b : Bound) → o ≡ Some b → IsInward Lower (pair_of b.value).tilt) → below (as_space numbers) x (bound_at e (value_in o)) ≡ false → below deltas (flat x) (value_in o) ≡ false
  below_kept x None t h = refl
  below_kept x (Some b) t h = lower_kept x (pair_of b.value) (t b refl) h

  above_kept : (x : Number) (o : Option Bound) → ((b : Bound) → o ≡ Some b → IsInward Upper (pair_of b.value).tilt) → above (as_space numbers) x (bound_at e (value_in o)) ≡ false → above deltas (flat x) (value_in o) ≡ false
  above_kept x None t h = refl
  above_kept x (Some b) t h = upper_kept x (pair_of b.value) (t b refl) h

  module _ (held : List Bound) (inward : (b : Bound) → Contains held b → IsInward b.side (pair_of b.value).tilt) (v : ℕ → Pair Number) where
    of_strongest : (side : Side) (y : ℕ) (b : Bound) → strongest side y held ≡ Some b → IsInward side (pair_of b.value).tilt
    of_strongest side y b is =
        let h = strongest_is_held side y held b is in
        subst (λ (s : Side). IsInward s (pair_of b.value).tilt) h.1 (inward b h.0)

    pub flat_within : KeepsAt e (ranges_in held) v → (y : ℕ) → is_within deltas (ranges_in held) (λ z. flat (at_number e (v z))) y ≡ true
    flat_within h y =
        let x = at_number e (v y) in
        let sides = or_parts (below (as_space numbers) x (bound_at e (ranges_in held y).lower)) (above (as_space numbers) x (bound_at e (ranges_in held y).upper)) (not-true _ (h y)) in
        (λ i. not (below_kept x (strongest Lower y held) (of_strongest Lower y) sides.0 i || above_kept x (strongest Upper y held) (of_strongest Upper y) sides.1 i))
