-- What explains that a row cannot hold.
use Rattle.std.proofs.Common.{◌≡◌, ℕ, suc, Bool, true, false, List, [], ◌∷◌, sym, ◌∙◌, ap, cond, Option, Some, None}
use Rattle.spec_tableaux.specs.Fields.{is_positive}
use Rattle.spec_tableaux.specs.Spaces.{Space, IsOrdered, IsSpace, space_difference}
use Rattle.spec_tableaux.specs.Rows.{Entry, row_of, sum_of, Row, Holds}
use Rattle.spec_tableaux.specs.SolvedForms.{AllVariables, IsTidy, IsSolved, IsNonbasic}
use Rattle.spec_tableaux.specs.Ranges.{can_rise, above, can_fall, below, Range, moves_by, stopping_bound, is_within, AreStopped}
use Rattle.spec_tableaux.specs.LeastVariable.{stuck, State, IsNonbasicFeasible, RuleSays, goes_up}
use Rattle.spec_tableaux.proofs.Sums.{four}
use Rattle.spec_tableaux.proofs.SolvedForms.{over_more, over_row, tidy_row}
use Rattle.spec_tableaux.proofs.Conflicts.{Within, Still, still_first, within_of, still_rest}

at_upper : {A V : Type 0} (s : Space A V) → IsOrdered s → (x : V) (upper : Option V) → can_rise s x upper ≡ false → above s x upper ≡ false → upper ≡ Some x
at_upper s o x None h k = absurd (cc)
at_upper s o x (Some t) h k = ap Some (o.less_total t x k h)

at_lower : {A V : Type 0} (s : Space A V) → IsOrdered s → (x : V) (lower : Option V) → can_fall s x lower ≡ false → below s x lower ≡ false → lower ≡ Some x
at_lower s o x None h k = absurd (cc)
at_lower s o x (Some t) h k = ap Some (o.less_total t x h k)

pub is_stopped : {A V : Type 0} (s : Space A V) → IsOrdered s → (range : Range V) (x : V) (up : Bool) (c : A) → s.numbers.is_zero c ≡ false → moves_by s range x up c ≡ false → Within s range x → stopping_bound s range up c ≡ Some x
is_stopped s o range x up c z m w = by (is_positive s.numbers c) up (sym (ap (λ q. cond q false (cond (is_positive s.numbers c) (cond up (can_rise s x range.upper) (can_fall s x range.lower)) (cond up (can_fall s x range.lower) (can_rise s x range.upper)))) z) ∙ m)
  where
    by : (p up : Bool) → cond p (cond up (can_rise s x range.upper) (can_fall s x range.lower)) (cond up (can_fall s x range.lower) (can_rise s x range.upper)) ≡ false
        → cond p (cond up range.upper range.lower) (cond up range.lower range.upper) ≡ Some x
    by true true m = at_upper s o x range.upper m w.not_above
    by true false m = at_lower s o x range.lower m w.not_below
    by false true m = at_lower s o x range.lower m w.not_below
    by false false m = at_upper s o x range.upper m w.not_above

are_stopped : {A V : Type 0} (s : Space A V) → IsSpace s → IsOrdered s → (ranges : ℕ → Range V) (v : ℕ → V) (up : Bool) (at : ℕ) (es : List (Entry A)) → AllVariables (λ y. is_within s ranges v y ≡ true) es
    → IsTidy s.numbers at es → Still s ranges v up es → AreStopped s ranges v up es
are_stopped s l o ranges v up at [] w t h = tt
are_stopped s l o ranges v up at (e ∷ es) w t h = (
  is_stopped s o (ranges e.variable) (v e.variable) up e.coefficient t.1 (still_first s ranges v up e es h) (within_of s ranges v e.variable w.0),
  are_stopped s l o ranges v up (suc e.variable) es w.1 t.2 (still_rest s l ranges v up e es t.2 h),
)

-- where the rule is stuck, each variable of the row is at the bound that stops it
pub stuck_is_stopped : {A V : Type 0} (s : Space A V) → IsSpace s → IsOrdered s → (ranges : ℕ → Range V) (t : State A V) (b : ℕ) → IsSolved s.numbers t.rows → IsNonbasicFeasible s ranges t → RuleSays s ranges t (stuck b)
    → AreStopped s ranges t.point (goes_up s ranges t b) (row_of b t.rows).entries
stuck_is_stopped s l o ranges t b i k says = are_stopped s l o ranges t.point (goes_up s ranges t b) 0 (row_of b t.rows).entries
    (over_more (IsNonbasic t.rows) (λ y. is_within s ranges t.point y ≡ true) (row_of b t.rows).entries k.nonbasic (over_row (IsNonbasic t.rows) b t.rows i.nonbasic)) (tidy_row s b t.rows i.tidy) (record { is = says.2 })

-- by the entries as weights, the distances from the bounds sum up to the distance of the basic variable
pub distances : {A V : Type 0} (s : Space A V) → IsSpace s → (p v : ℕ → V) (es : List (Entry A)) → sum_of s (λ y. space_difference s (p y) (v y)) es ≡ space_difference s (sum_of s p es) (sum_of s v es)
distances s l p v [] = sym (ap (s.plus s.origin) (l.scale_origin (s.numbers.opposite s.numbers.one)) ∙ l.plus_origin s.origin)
distances s l p v (e ∷ es) =
    ap (s.plus (s.scale e.coefficient (space_difference s (p e.variable) (v e.variable)))) (distances s l p v es)
    ∙ ap (λ z. s.plus z (space_difference s (sum_of s p es) (sum_of s v es))) (l.scale_plus e.coefficient (p e.variable) _ ∙ ap (s.plus (s.scale e.coefficient (p e.variable))) (turn e.coefficient (v e.variable)))
    ∙ four s l _ _ _ _ ∙ ap (s.plus (s.plus (s.scale e.coefficient (p e.variable)) (sum_of s p es))) (sym (l.scale_plus (s.numbers.opposite s.numbers.one) _ _))
  where
    turn : (c : _) (x : _) → s.scale c (s.scale (s.numbers.opposite s.numbers.one) x) ≡ s.scale (s.numbers.opposite s.numbers.one) (s.scale c x)
    turn c x = sym (l.product_scale c (s.numbers.opposite s.numbers.one) x) ∙ ap (λ k. s.scale k x) (l.numbers.product_commutative c (s.numbers.opposite s.numbers.one)) ∙ l.product_scale (s.numbers.opposite s.numbers.one) c x

-- of a row: with the bound g of the basic variable, g - b plus the weighted distances is g space_difference the value at the point, whatever solution p
pub row_explains : {A V : Type 0} (s : Space A V) → IsSpace s → (p v : ℕ → V) (r : Row A) (g : V) → Holds s p r → Holds s v r
    → s.plus (space_difference s g (p r.basic)) (sum_of s (λ y. space_difference s (p y) (v y)) r.entries) ≡ space_difference s g (v r.basic)
row_explains s l p v r g hp hv =
    ap (s.plus (space_difference s g (p r.basic))) (distances s l p v r.entries ∙ (λ i. space_difference s (sym hp.is i) (sym hv.is i)))
    ∙ l.plus_associative g _ _ ∙ ap (s.plus g) (sym (l.plus_associative _ (p r.basic) _) ∙ ap (λ z. s.plus z (s.scale (s.numbers.opposite s.numbers.one) (v r.basic))) (none (p r.basic)) ∙ l.plus_origin _)
  where
    none : (x : _) → s.plus (s.scale (s.numbers.opposite s.numbers.one) x) x ≡ s.origin
    none x = ap (s.plus (s.scale (s.numbers.opposite s.numbers.one) x)) (sym (l.one_scale x)) ∙ sym (l.sum_scale (s.numbers.opposite s.numbers.one) s.numbers.one x) ∙ ap (λ t. s.scale t x) (l.numbers.sum_opposite s.numbers.one) ∙ l.zero_scale x
