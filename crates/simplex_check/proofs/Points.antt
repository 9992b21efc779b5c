-- Values as points.
use Rattle.std.proofs.Common.{◌≡◌, ℕ, zero, suc, ◌<◌, Bool, false, List, [], ◌∷◌, ◌++◌, length, map, get_or, slice_set, refl, sym, ◌∙◌, ap, arith, cond, ◌==◌}
use Rattle.std.proofs.lemmas.List.{get_or-map}
use Rattle.std.proofs.lemmas.Bool.Decides.{nat_tests}
use Rattle.delta_num.specs.declared.delta.Delta.{Delta}
use Rattle.spec_tableaux.specs.Spaces.{Pair, IsSpace, IsOrdered, TellsApart}
use Rattle.spec_tableaux.specs.Fields.{is_positive}
use Rattle.spec_tableaux.specs.Ranges.{Range, can_rise, can_fall, moves_by}
use Rattle.spec_tableaux.specs.Numbers.{Number, numbers}
use Rattle.spec_tableaux.proofs.Numbers.{numbers_are_ordered_field}
use Rattle.spec_tableaux.proofs.OrderedSpaces.{pairs_are_space, pairs_are_ordered, pair_tells_apart}
use Rattle.simplex_bounds.specs.Deltas.{pair_of}
use Rattle.spec_tableaux.specs.Points.{deltas, point_in}

pub deltas_are_space : IsSpace deltas
deltas_are_space = pairs_are_space numbers numbers_are_ordered_field

pub deltas_are_ordered : IsOrdered deltas
deltas_are_ordered = pairs_are_ordered numbers numbers_are_ordered_field

-- one, without an infinitesimal part
abbrev pub delta_one : Pair Number
delta_one = record { base = numbers.one; tilt = numbers.zero }

pub one_tells_apart : TellsApart deltas delta_one
one_tells_apart = pair_tells_apart numbers numbers_are_ordered_field

-- points that agree everywhere are one
pub same_point : {V : Type 0} (u v : ℕ → V) → ((y : ℕ) → u y ≡ v y) → u ≡ v
same_point u v h = λ i y. h y i

-- one value is written
pub point_set : (vs : List Delta) (i y : ℕ) (v : Delta) → i < length vs → point_in (map pair_of (slice_set vs i v)) y ≡ cond (y == i) (pair_of v) (point_in (map pair_of vs) y)
point_set [] i y v h = absurd (omega arith)
point_set (x ∷ vs) zero zero v h = refl
point_set (x ∷ vs) zero (suc y) v h = ap (λ q. cond q (pair_of v) (point_in (map pair_of vs) y)) (let k : false ≡ (suc y == 0) = grind (arith, nat_tests) in k)
point_set (x ∷ vs) (suc i) zero v h = ap (λ q. cond q (pair_of v) (pair_of x)) (let k : false ≡ (0 == suc i) = grind (arith, nat_tests) in k)
point_set (x ∷ vs) (suc i) (suc y) v h = point_set vs i y v (omega arith) ∙ ap (λ q. cond q (pair_of v) (point_in (map pair_of vs) y)) (let k : (y == i) ≡ (suc y == suc i) = grind (arith, nat_tests) in k)

-- a value that was read
pub value_at : (vs : List Delta) (i : ℕ) (r : Delta) → i < length vs → r ≡ get_or vs i r → pair_of r ≡ point_in (map pair_of vs) i
value_at vs i r h e = ap pair_of e ∙ sym (get_or-map pair_of vs i r deltas.origin h)

-- one value more, which is the origin
pub point_more : (vs : List (Pair Number)) (y : ℕ) → point_in (vs ++ deltas.origin ∷ []) y ≡ point_in vs y
point_more [] zero = refl
point_more [] (suc y) = refl
point_more (v ∷ vs) zero = refl
point_more (v ∷ vs) (suc y) = point_more vs y

-- a variable without an entry does not move
pub nothing_moves : (range : Range (Pair Number)) (x : Pair Number) (up : Bool) → moves_by deltas range x up numbers.zero ≡ false
nothing_moves range x up =
    ap (λ t. cond t false (cond (is_positive numbers numbers.zero) (cond up (can_rise deltas x range.upper) (can_fall deltas x range.lower)) (cond up (can_fall deltas x range.lower) (can_rise deltas x range.upper)))) numbers_are_ordered_field.zero_is_zero
