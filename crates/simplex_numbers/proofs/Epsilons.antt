-- Which number is put for the infinitesimal.
use Rattle.std.proofs.Common.{◌≡◌, ℕ, ◌⊎◌, inl, inr, List, [], Result, Ok, Err, IfOk, IfErr, sym, ◌∙◌, ap, subst}
use Rattle.spec_text.proofs.Members.{none as no_member}
use Rattle.spec_tableaux.specs.Spaces.{Pair}
use Rattle.spec_tableaux.specs.Ranges.{Range}
use Rattle.spec_tableaux.specs.Numbers.{Number, numbers}
use Rattle.spec_tableaux.specs.Points.{Ranges}
use Rattle.spec_tableaux.specs.Halves.{IsSteeper, halfway, OverflowsApart, OverflowsNumber, values}
use Rattle.spec_causes.specs.Causes.{IsHalfAbove, IsHalfBelow, IsHalfIn, IsHalfAmong, IsEpsilon}
use Rattle.ratio128.specs.declared.ratio.Ratio.{Ratio}
use Rattle.ratio128.specs.declared.wide.Wide.{Wide}
use Rattle.ratio128.specs.Meant.{overflow}
use Rattle.tableau.specs.Numbers.{number_of}
use Rattle.simplex_numbers.specs.Values.{IsSmaller, IsAboveNone}
use Rattle.simplex_numbers.proofs.Orders.{not_above}

-- the lesser one is half of the number at which values meet, or the one before
pub half_or : (e half d : Ratio) (x y : Pair Number) → IsSteeper x y → number_of half ≡ halfway x y → (d ≡ half) ⊎ (d ≡ e) → (d ≡ e) ⊎ (IsSteeper x y × (number_of d ≡ halfway x y))
half_or e half d x y steep is (inl h) = inr (steep, ap number_of h ∙ is)
half_or e half d x y steep is (inr h) = inl h

-- a second step leaves what a first one gave, or gives a half of its own
pub half_in : (r : Result Ratio Wide) (e d : Ratio) (range : Range (Pair Number)) (x : Pair Number) → (d ≡ e) ⊎ IsHalfAbove range.lower x (number_of d)
    → IfOk r (λ c. (c ≡ d) ⊎ IsHalfBelow range.upper x (number_of c)) → IfOk r (λ c. (c ≡ e) ⊎ IsHalfIn range x (number_of c))
half_in (Err w) e d range x first second = tt
half_in (Ok c) e d range x first (inr half) = inr (inr half)
half_in (Ok c) e d range x (inl same) (inl h) = inl (h ∙ same)
half_in (Ok c) e d range x (inr half) (inl h) = inr (inl (subst (λ (b : Ratio). IsHalfAbove range.lower x (number_of b)) (sym h) half))

-- a number stays, or is such a half of a variable more
pub one_of_more : (ranges : Ranges) (v : ℕ → Pair Number) (y : ℕ) (e d : Ratio) (r : Range (Pair Number)) (x : Pair Number)
    → (number_of e ≡ numbers.one) ⊎ ((z : ℕ) × IsHalfIn (ranges z) (v z) (number_of e)) → r ≡ ranges y → x ≡ v y
    → (d ≡ e) ⊎ IsHalfIn r x (number_of d) → (number_of d ≡ numbers.one) ⊎ ((z : ℕ) × IsHalfIn (ranges z) (v z) (number_of d))
one_of_more ranges v y e d r x before range value (inl same) =
    subst (λ (b : Ratio). (number_of b ≡ numbers.one) ⊎ ((z : ℕ) × IsHalfIn (ranges z) (v z) (number_of b))) (sym same) before
one_of_more ranges v y e d r x before range value (inr half) =
    inr (y, subst (λ z. IsHalfIn (ranges y) z (number_of d)) value (subst (λ z. IsHalfIn z x (number_of d)) range half))

-- a smaller number is above none of those that a number is above none of
pub none_smaller : (N : Number → Type 0) (e d : Number) → IsSmaller d e → IsAboveNone N e → IsAboveNone N d
none_smaller N e d small none h is = not_above h e d (none h is) small.1

-- two steps are above no half by either bound
pub none_in : (r : Result Ratio Wide) (d : Number) (range : Range (Pair Number)) (x : Pair Number) → IsAboveNone (IsHalfAbove range.lower x) d → IfOk r (λ c. IsSmaller (number_of c) d)
    → IfOk r (λ c. IsAboveNone (IsHalfBelow range.upper x) (number_of c)) → IfOk r (λ c. IsAboveNone (IsHalfIn range x) (number_of c))
none_in (Err w) d range x above small below = tt
none_in (Ok c) d range x above small below = λ h half. elim half [
  | inl it ↦ none_smaller (IsHalfAbove range.lower x) d (number_of c) small above h it
  | inr it ↦ below h it
]

-- a last step for values that are kept apart gives the number for these too
pub epsilon_after : (r : Result Ratio Wide) (e : Ratio) (ranges : Ranges) (v : ℕ → Pair Number) (apart : List (Pair Number)) → IsEpsilon ranges v [] (number_of e)
    → IfOk r (λ d. IsSmaller (number_of d) (number_of e)) → IfOk r (λ d. (d ≡ e) ⊎ IsHalfAmong apart (number_of d))
    → IfOk r (λ d. IsAboveNone (IsHalfAmong apart) (number_of d)) → IfOk r (λ d. IsEpsilon ranges v apart (number_of d))
epsilon_after (Err w) e ranges v apart before small is least = tt
epsilon_after (Ok d) e ranges v apart before small is least = record {
  one_of = one_of is before.one_of;
  most_one = not_above numbers.one (number_of e) (number_of d) before.most_one small.1;
  most_each = λ y. none_smaller (IsHalfIn (ranges y) (v y)) (number_of e) (number_of d) small (before.most_each y);
  most_apart = least;
}
  where
    one_of : (d ≡ e) ⊎ IsHalfAmong apart (number_of d) → (number_of e ≡ numbers.one) ⊎ ((y : ℕ) × IsHalfIn (ranges y) (v y) (number_of e)) ⊎ IsHalfAmong [] (number_of e)
        → (number_of d ≡ numbers.one) ⊎ ((y : ℕ) × IsHalfIn (ranges y) (v y) (number_of d)) ⊎ IsHalfAmong apart (number_of d)
    one_of (inr half) h = inr (inr half)
    one_of (inl same) (inl is) = inl (ap number_of same ∙ is)
    one_of (inl same) (inr (inl half)) = inr (inl (half.0, subst (λ (b : Ratio). IsHalfIn (ranges half.0) (v half.0) (number_of b)) (sym same) half.1))
    one_of (inl same) (inr (inr half)) = absurd (no_member half.lesser half.lesser_in)

-- it fails by two of these
pub overflows_after : (r : Result Ratio Wide) (ranges : Ranges) (v : ℕ → Pair Number) (apart : List (Pair Number)) → IfErr r (λ w. OverflowsApart apart (overflow w))
    → IfErr r (λ w. OverflowsNumber ranges v apart (overflow w))
overflows_after (Ok d) ranges v apart h = tt
overflows_after (Err w) ranges v apart h = values h
