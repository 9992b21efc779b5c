use Rattle.std.proofs.Common.{◌≡◌, ℕ, ap, sym, ◌∙◌, refl}
use Rattle.std.proofs.lemmas.Result.{on_ok_weaker}
use Rattle.ratio128.specs.Meant.{overflow}
use Rattle.spec_tableaux.specs.Ranges.{below, value_in_range}
use Rattle.spec_tableaux.specs.LeastVariable.{moved}
use Rattle.tableau.proofs.Telling.{told_wide, err_as}
use Rattle.simplex_bounds.specs.Deltas.{pair_of, range_of}
use Rattle.spec_tableaux.specs.Points.{deltas, point_in}
use Rattle.simplex_bounds.specs.Held.{ranges_in}
use Rattle.simplex_check.specs.Assignments.{state_of}
use Rattle.spec_tableaux.specs.BoundsOverflows.{CheckOverflows, OverflowsMove}
use Rattle.simplex_check.proofs.Following.{first_comes}
use Rattle.simplex_check.proofs.Shifts.{violates_at, goal_at, gap_at, overflows_difference, overflows_updating, reached_by}
use Rattle.simplex_check.proofs.assignment.RealAssignment.update_one.Goals as goal

pub returns-in_err-d-clause-wide : goal.returns-in_err-d-clause-wide
returns-in_err-d-clause-wide c =
    let ranges = ranges_in c.args.bounds.now.held in
    let t = state_of c.args.self.now in
    told_wide (CheckOverflows ranges t) c.from_residual.result c.in_err-d.field-0.0 c.from_residual.ensures.1
    (overflows_difference ranges t c.args.y (pair_of c.in-Some.bound) (pair_of c.value-value.result) (overflow c.in_err-d.field-0.0)
    (violates_at ranges t c.args.y (range_of c.range.result) (pair_of c.value-value.result) c.in-Some.ensures.0 c.range.ensures c.value-value.ensures)
    (goal_at ranges t c.args.y (range_of c.range.result) (pair_of c.value-value.result) (pair_of c.in-Some.bound) (below deltas (pair_of c.value-value.result) (range_of c.range.result).lower) c.in-Some.ensures.2 refl c.range.ensures c.value-value.ensures)
    c.value-value.ensures c.in_err-d.ensures.wide)

pub shift-requires-clause-start : goal.shift-requires-clause-start
shift-requires-clause-start c =
    reached_by (pair_of c.in-Some.bound) (pair_of c.value-value.result) (pair_of c.in_ok-d.d) c.in_ok-d.ensures.exact ∙ ap (λ v. deltas.plus v (pair_of c.in_ok-d.d)) c.value-value.ensures

pub returns-clause-nonbasic_updated : goal.returns-clause-nonbasic_updated
returns-clause-nonbasic_updated c =
    let v = point_in c.args.self.now.values in
    let rs = c.args.self.now.tableau.rows in
    on_ok_weaker {P = (y : ℕ) → point_in c.shift.new.self.values y ≡ moved deltas rs c.args.y (pair_of c.in_ok-d.d) v y}
    {Q = point_in c.shift.new.self.values c.args.y ≡ value_in_range deltas (ranges_in c.args.bounds.now.held c.args.y) (v c.args.y)} c.shift.result
    (λ h. h c.args.y
    ∙ sym (first_comes rs c.args.y (pair_of c.in_ok-d.d) v (pair_of c.in-Some.bound) c.requires.nonbasic
    (reached_by (pair_of c.in-Some.bound) (pair_of c.value-value.result) (pair_of c.in_ok-d.d) c.in_ok-d.ensures.exact ∙ ap (λ z. deltas.plus z (pair_of c.in_ok-d.d)) c.value-value.ensures))
    ∙ c.in-Some.ensures.1 ∙ (λ i. value_in_range deltas (c.range.ensures i) (c.value-value.ensures i)))
    c.shift.ensures.values

pub returns-clause-wide : goal.returns-clause-wide
returns-clause-wide c =
    let ranges = ranges_in c.args.bounds.now.held in
    let t = state_of c.args.self.now in
    err_as (OverflowsMove t c.args.y (pair_of c.in_ok-d.d)) (CheckOverflows ranges t) c.shift.result
    (overflows_updating ranges t c.args.y (pair_of c.in_ok-d.d) c.requires.nonbasic
    (violates_at ranges t c.args.y (range_of c.range.result) (pair_of c.value-value.result) c.in-Some.ensures.0 c.range.ensures c.value-value.ensures)
    (gap_at ranges t c.args.y (pair_of c.in-Some.bound) (pair_of c.value-value.result) (pair_of c.in_ok-d.d)
    (goal_at ranges t c.args.y (range_of c.range.result) (pair_of c.value-value.result) (pair_of c.in-Some.bound) (below deltas (pair_of c.value-value.result) (range_of c.range.result).lower) c.in-Some.ensures.2 refl c.range.ensures c.value-value.ensures)
    c.value-value.ensures c.in_ok-d.ensures.exact))
    c.shift.ensures.wide
