-- Nonbasic variables that move, and exchanges.
use Rattle.std.proofs.Common.{◌≡◌, ℕ, ◌<◌, Bool, true, false, List, [], ◌∷◌, length, map, Err, refl, sym, ◌∙◌, ap, arith, cond, ◌==◌, subst}
use Rattle.std.proofs.lemmas.List.{length-map}
use Rattle.std.proofs.lemmas.Bool.{and_parts, not-true}
use Rattle.std.proofs.lemmas.Bool.Decides.{nat_tests}
use Rattle.spec_numbers.specs.Bounds.{Overflow}
use Rattle.spec_tableaux.specs.Deltas.{delta_subtracted, delta_divided}
use Rattle.delta_num.specs.declared.delta.Delta.{Delta}
use Rattle.spec_tableaux.specs.Spaces.{Pair, space_difference}
use Rattle.spec_tableaux.specs.Rows.{Entry, Row, Solves, coefficient_of, row_of, is_basic}
use Rattle.spec_tableaux.specs.SolvedForms.{IsNonbasic, AllVariables, IsSolved, IsPivot}
use Rattle.spec_tableaux.specs.Ranges.{Range, below}
use Rattle.spec_tableaux.specs.LeastVariable.{State, RuleSays, Exchanges, Moves, exchange, is_out, goal_of, distance, moved}
use Rattle.spec_tableaux.specs.CheckOverflows.{OverflowsExchange}
use Rattle.spec_tableaux.specs.Numbers.{Number, numbers}
use Rattle.spec_tableaux.proofs.Numbers.{numbers_are_ordered_field}
use Rattle.spec_tableaux.proofs.UpdatingNonbasic.{moved_moves}
use Rattle.spec_tableaux.proofs.SolvedForms.{over_row}
use Rattle.spec_tableaux.proofs.Steps.{moves_solve, exchange_made}
use Rattle.spec_tableaux.proofs.Returns.{says_pivot}
use Rattle.spec_tableaux.proofs.Sums.{three, plus_origin_right}
use Rattle.tableau.specs.Views.{TableauView, IsTableau, with_exchange}
use Rattle.simplex_bounds.specs.Deltas.{pair_of}
use Rattle.spec_tableaux.specs.Points.{deltas, point_in, Ranges, delta_in}
use Rattle.simplex_check.specs.Assignments.{AssignmentView, state_of}
use Rattle.simplex_check.specs.Changes.{Lead, written}
use Rattle.simplex_check.specs.Moves.{keeps}
use Rattle.spec_tableaux.specs.BoundsOverflows.{coefficient_in, Violates, goal, gap, OverflowsMove, enters, updates_nonbasic, CheckOverflows, difference, quotient, move, rows}
use Rattle.simplex_check.specs.declared.changes.ValueChange.{ValueChange}
use Rattle.simplex_check.proofs.Points.{deltas_are_space, same_point}
use Rattle.simplex_check.proofs.Writing.{written_leads}

-- changes that were written lead to their point
pub lead_written : (v w : ℕ → Pair Number) (cs : List ValueChange) (u : ℕ → Pair Number) → Lead v w cs → ((y : ℕ) → u y ≡ written cs v y) → (y : ℕ) → u y ≡ w y
lead_written v w cs u l h y = h y ∙ written_leads v w cs l.come l.others y

pub same_lengths : (vs ws : List Delta) (n : ℕ) → length ws ≡ length vs → length (map pair_of vs) ≡ n → length (map pair_of ws) ≡ n
same_lengths vs ws n e h = length-map ws pair_of ∙ e ∙ sym (length-map vs pair_of) ∙ h

moves_to : (rs : List (Row Number)) (x : ℕ) (d : Pair Number) (v w : ℕ → Pair Number) → IsNonbasic rs x → ((y : ℕ) → w y ≡ moved deltas rs x d v y) → Moves deltas rs x d v w
moves_to rs x d v w n h = subst (Moves deltas rs x d v) (sym (same_point w (moved deltas rs x d v) h)) (moved_moves deltas rs x d v n)

-- rows are solved where a nonbasic variable has moved
pub moved_solve : (rs : List (Row Number)) (x : ℕ) (d : Pair Number) (v w : ℕ → Pair Number) → IsSolved numbers rs → IsNonbasic rs x → ((y : ℕ) → w y ≡ moved deltas rs x d v y) → Solves deltas v rs → Solves deltas w rs
moved_solve rs x d v w i n h s = moves_solve deltas deltas_are_space rs x d v w i (moves_to rs x d v w n h) s

-- an exchange that the rule says is made by such a move
pub exchange_is_made : (ranges : Ranges) (b : AssignmentView) (u : TableauView) (ws : List (Pair Number)) (r x : ℕ) → IsSolved numbers b.tableau.rows → Solves deltas (point_in b.values) b.tableau.rows
    → IsPivot numbers b.tableau.rows r x → u ≡ with_exchange b.tableau r x → ((y : ℕ) → point_in ws y ≡ moved deltas b.tableau.rows x (distance deltas ranges (state_of b) r x) (point_in b.values) y)
    → Exchanges deltas ranges (state_of b) r x (state_of (record { tableau = u; values = ws }))
exchange_is_made ranges b u ws r x i s p e h =
    subst (λ (t : TableauView). Exchanges deltas ranges (state_of b) r x (record { rows = t.rows; point = point_in ws })) (sym e)
    (exchange_made deltas deltas_are_space ranges (state_of b) r x (point_in ws) i s p.basic p.entry
    (moves_to b.tableau.rows x (distance deltas ranges (state_of b) r x) (point_in b.values) (point_in ws) p.nonbasic h))

pub pivot_by_rule : (ranges : Ranges) (t : State Number (Pair Number)) (b x : ℕ) → IsSolved numbers t.rows → RuleSays deltas ranges t (exchange b x) → IsPivot numbers t.rows b x
pivot_by_rule ranges t b x i says = says_pivot deltas deltas_are_space ranges t b x i says

-- the variable of an entry is known
entry_known : (n x : ℕ) (es : List (Entry Number)) → AllVariables (λ y. y < n) es → numbers.is_zero (coefficient_of numbers x es) ≡ false → x < n
entry_known n x [] o h = absurd (let z : numbers.is_zero numbers.zero ≡ true = numbers_are_ordered_field.zero_is_zero in cc)
entry_known n x (e ∷ es) o h = by (λ k. entry_known n x es o.1 k) (e.variable == x) refl
  where
    by : (numbers.is_zero (coefficient_of numbers x es) ≡ false → x < n) → (q : Bool) → (e.variable == x) ≡ q → x < n
    by f true g = let s : e.variable ≡ x = grind (arith, nat_tests) in subst (λ y. y < n) s o.0
    by f false g = f (ap (λ q. numbers.is_zero (cond q e.coefficient (coefficient_of numbers x es))) (sym g) ∙ h)

pub entering_known : (t : TableauView) (b x : ℕ) → IsTableau t → IsPivot numbers t.rows b x → x < t.variables
entering_known t b x i p = entry_known t.variables x (row_of b t.rows).entries (over_row (λ y. y < t.variables) b t.rows i.entries_below) p.entry

-- a basic variable that is out of its bounds violates one
pub violates_out : (ranges : Ranges) (t : State Number (Pair Number)) (b : ℕ) → is_out deltas ranges t b ≡ true → Violates ranges t b
violates_out ranges t b h = not-true _ (and_parts (is_basic b t.rows) _ h).1

pub violates_at : (ranges : Ranges) (t : State Number (Pair Number)) (y : ℕ) (range : Range (Pair Number)) (v : Pair Number) → keeps range v ≡ false → range ≡ ranges y → v ≡ t.point y → Violates ranges t y
violates_at ranges t y range v k r e = subst (λ r. keeps r (t.point y) ≡ false) r (subst (λ v. keeps range v ≡ false) e k)

-- the bound to which a variable has to move
pub goal_at : (ranges : Ranges) (t : State Number (Pair Number)) (y : ℕ) (range : Range (Pair Number)) (v g : Pair Number) (up : Bool) → g ≡ goal_of deltas range up → up ≡ below deltas v range.lower
    → range ≡ ranges y → v ≡ t.point y → g ≡ goal ranges t y
goal_at ranges t y range v g up e u r k =
    e ∙ ap (goal_of deltas range) (u ∙ ap (λ z. below deltas z range.lower) k) ∙ ap (λ (z : Range (Pair Number)). goal_of deltas z (below deltas (t.point y) z.lower)) r

pub gap_at : (ranges : Ranges) (t : State Number (Pair Number)) (y : ℕ) (g v d : Pair Number) → g ≡ goal ranges t y → v ≡ t.point y → d ≡ space_difference deltas g v → d ≡ gap ranges t y
gap_at ranges t y g v d a b e = e ∙ (λ i. space_difference deltas (a i) (b i))

-- overflows of the distance
pub overflows_difference : (ranges : Ranges) (t : State Number (Pair Number)) (y : ℕ) (g v : Pair Number) (o : Overflow) → Violates ranges t y → g ≡ goal ranges t y → v ≡ t.point y
    → delta_subtracted (delta_in g) (delta_in v) ≡ Err o → CheckOverflows ranges t o
overflows_difference ranges t y g v o w a b e = difference y w ((λ i. delta_subtracted (delta_in (sym a i)) (delta_in (sym b i))) ∙ e)

pub overflows_quotient : (ranges : Ranges) (t : State Number (Pair Number)) (b x : ℕ) (d : Pair Number) (c : Number) (o : Overflow) → RuleSays deltas ranges t (exchange b x) → d ≡ gap ranges t b
    → c ≡ coefficient_in t.rows b x → delta_divided (delta_in d) c.fraction ≡ Err o → CheckOverflows ranges t o
overflows_quotient ranges t b x d c o s a e h = quotient b x s ((λ i. delta_divided (delta_in (sym a i)) (sym e i).fraction) ∙ h)

-- overflows of a move
pub overflows_updating : (ranges : Ranges) (t : State Number (Pair Number)) (y : ℕ) (d : Pair Number) → IsNonbasic t.rows y → Violates ranges t y → d ≡ gap ranges t y → (o : Overflow) → OverflowsMove t y d o → CheckOverflows ranges t o
overflows_updating ranges t y d n w e o h = move y d (updates_nonbasic n w e) h

pub overflows_entering : (ranges : Ranges) (t : State Number (Pair Number)) (b x : ℕ) (d : Pair Number) → RuleSays deltas ranges t (exchange b x) → d ≡ distance deltas ranges t b x → (o : Overflow) → OverflowsMove t x d o → CheckOverflows ranges t o
overflows_entering ranges t b x d s e o h = move x d (enters b s e) h

pub overflows_rows : (ranges : Ranges) (t : State Number (Pair Number)) (b x : ℕ) → RuleSays deltas ranges t (exchange b x) → (o : Overflow) → OverflowsExchange t.rows b x o → CheckOverflows ranges t o
overflows_rows ranges t b x s o h = rows b x s h

-- a value and what it lacks
pub reached_by : (a b d : Pair Number) → d ≡ space_difference deltas a b → a ≡ deltas.plus b d
reached_by a b d e =
    let l = deltas_are_space in
    let one = numbers.one in
    let none : deltas.plus b (deltas.scale (numbers.opposite one) b) ≡ deltas.origin =
    ap (λ z. deltas.plus z (deltas.scale (numbers.opposite one) b)) (sym (l.one_scale b)) ∙ sym (l.sum_scale one (numbers.opposite one) b)
    ∙ ap (λ k. deltas.scale k b) (numbers_are_ordered_field.sum_commutative one (numbers.opposite one) ∙ numbers_are_ordered_field.sum_opposite one) ∙ l.zero_scale b in
    sym (ap (deltas.plus b) e ∙ three deltas l b a (deltas.scale (numbers.opposite one) b) ∙ ap (deltas.plus a) none ∙ plus_origin_right deltas l a)
