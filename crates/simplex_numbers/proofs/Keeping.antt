-- Values that keep bounds as pairs keep them at a number at which what is off a bound stays off it.
use Rattle.std.proofs.Common.{◌≡◌, ℕ, Bool, true, false, not, ◌||◌, Option, Some, None, Result, Ok, Err, IfOk, refl, ◌∙◌, ap}
use Rattle.std.proofs.lemmas.Bool.{not-true, or_parts}
use Rattle.spec_tableaux.specs.Spaces.{Pair, as_space}
use Rattle.spec_tableaux.specs.Ranges.{Range, below, above}
use Rattle.spec_tableaux.specs.Numbers.{Number, numbers}
use Rattle.spec_tableaux.proofs.Numbers.{numbers_are_ordered_field, numbers_are_ordered}
use Rattle.spec_tableaux.proofs.OrderedSpaces.{pairs_are_ordered}
use Rattle.ratio128.specs.declared.ratio.Ratio.{Ratio}
use Rattle.ratio128.specs.declared.wide.Wide.{Wide}
use Rattle.tableau.specs.Numbers.{number_of}
use Rattle.spec_tableaux.specs.Points.{deltas, Ranges}
use Rattle.simplex_check.specs.Moves.{keeps}
use Rattle.simplex_numbers.specs.Values.{bound_at, range_at, IsSmaller, StaysLess, StaysAbove, StaysBelow, StaysOff, KeepsAt}
use Rattle.spec_tableaux.specs.Halves.{at_number, is_less}
use Rattle.simplex_numbers.proofs.Orders.{less_stays, smaller_smaller, asymmetric}

-- what is not greater is not so at the number
pub not_greater : (e : Number) (x y : Pair Number) → deltas.less y x ≡ false → StaysLess e x y → is_less (at_number e y) (at_number e x) ≡ false
not_greater e x y h stays = by (deltas.less x y) refl
  where
    by : (q : Bool) → deltas.less x y ≡ q → is_less (at_number e y) (at_number e x) ≡ false
    by true less = asymmetric (at_number e x) (at_number e y) (stays less)
    by false same =
        ap (λ (z : Pair Number). is_less (at_number e y) (at_number e z)) ((pairs_are_ordered numbers numbers_are_ordered_field).less_total x y same h)
        ∙ numbers_are_ordered.less_irreflexive (at_number e y)

lower_kept : (e : Number) (o : Option (Pair Number)) (x : Pair Number) → below deltas x o ≡ false → StaysAbove e o x → below (as_space numbers) (at_number e x) (bound_at e o) ≡ false
lower_kept e None x h stays = refl
lower_kept e (Some b) x h stays = not_greater e b x h stays

upper_kept : (e : Number) (o : Option (Pair Number)) (x : Pair Number) → above deltas x o ≡ false → StaysBelow e o x → above (as_space numbers) (at_number e x) (bound_at e o) ≡ false
upper_kept e None x h stays = refl
upper_kept e (Some b) x h stays = not_greater e x b h stays

range_kept : (e : Number) (r : Range (Pair Number)) (x : Pair Number) → keeps r x ≡ true → StaysOff e r x
    → not (below (as_space numbers) (at_number e x) (range_at e r).lower || above (as_space numbers) (at_number e x) (range_at e r).upper) ≡ true
range_kept e r x h off =
    let sides = or_parts (below deltas x r.lower) (above deltas x r.upper) (not-true _ h) in
    (λ i. not (lower_kept e r.lower x sides.0 off.0 i || upper_kept e r.upper x sides.1 off.1 i))

-- at each number that is smaller too
pub above_smaller : (e d : Number) (o : Option (Pair Number)) (x : Pair Number) → IsSmaller d e → StaysAbove e o x → StaysAbove d o x
above_smaller e d None x small stays = tt
above_smaller e d (Some b) x small stays = less_stays e d b x small stays

below_smaller : (e d : Number) (o : Option (Pair Number)) (x : Pair Number) → IsSmaller d e → StaysBelow e o x → StaysBelow d o x
below_smaller e d None x small stays = tt
below_smaller e d (Some b) x small stays = less_stays e d x b small stays

pub off_smaller : (e d : Number) (r : Range (Pair Number)) (x : Pair Number) → IsSmaller d e → StaysOff e r x → StaysOff d r x
off_smaller e d r x small off = (above_smaller e d r.lower x small off.0, below_smaller e d r.upper x small off.1)

-- a second step keeps what a first one does
pub smaller_again : (r : Result Ratio Wide) (e d : Number) → IsSmaller d e → IfOk r (λ c. IsSmaller (number_of c) d) → IfOk r (λ c. IsSmaller (number_of c) e)
smaller_again (Ok c) e d first second = smaller_smaller e d (number_of c) first second
smaller_again (Err w) e d first second = tt

pub off_both : (r : Result Ratio Wide) (d : Number) (range : Range (Pair Number)) (x : Pair Number) → StaysAbove d range.lower x → IfOk r (λ c. IsSmaller (number_of c) d)
    → IfOk r (λ c. StaysBelow (number_of c) range.upper x) → IfOk r (λ c. StaysOff (number_of c) range x)
off_both (Ok c) d range x above second below = (above_smaller d (number_of c) range.lower x second above, below)
off_both (Err w) d range x above second below = tt

-- a last step keeps what is off all bounds off them, and within them
module _ (ranges : Ranges) (v : ℕ → Pair Number) where
  pub off_after : (r : Result Ratio Wide) (e : Number) → ((y : ℕ) → StaysOff e (ranges y) (v y)) → IfOk r (λ d. IsSmaller (number_of d) e)
      → IfOk r (λ d. (y : ℕ) → StaysOff (number_of d) (ranges y) (v y))
  off_after (Ok d) e off small = λ y. off_smaller e (number_of d) (ranges y) (v y) small (off y)
  off_after (Err w) e off small = tt

  pub kept_after : (r : Result Ratio Wide) → ((y : ℕ) → keeps (ranges y) (v y) ≡ true) → IfOk r (λ d. (y : ℕ) → StaysOff (number_of d) (ranges y) (v y))
      → IfOk r (λ d. KeepsAt (number_of d) ranges v)
  kept_after (Ok d) within off = λ y. range_kept (number_of d) (ranges y) (v y) (within y) (off y)
  kept_after (Err w) within off = tt
