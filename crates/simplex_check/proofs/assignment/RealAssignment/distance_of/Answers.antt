use Rattle.ratio128.specs.Meant.{overflow}
use Rattle.tableau.specs.Numbers.{number_of}
use Rattle.tableau.proofs.Telling.{told_wide}
use Rattle.simplex_bounds.specs.Deltas.{pair_of, range_of}
use Rattle.simplex_bounds.specs.Held.{ranges_in}
use Rattle.simplex_check.specs.Assignments.{state_of}
use Rattle.spec_tableaux.specs.BoundsOverflows.{CheckOverflows}
use Rattle.simplex_check.proofs.Shifts.{violates_out, goal_at, gap_at, overflows_difference, overflows_quotient}
use Rattle.simplex_check.proofs.assignment.RealAssignment.distance_of.Goals as goal

pub returns-in_err-difference-clause-wide : goal.returns-in_err-difference-clause-wide
returns-in_err-difference-clause-wide c =
    let ranges = ranges_in c.args.bounds.now.held in
    let t = state_of c.args.self.now in
    told_wide (CheckOverflows ranges t) c.from_residual.result c.in_err-difference.field-0.0 c.from_residual.ensures.1
    (overflows_difference ranges t c.args.leaving (pair_of c.goal_of-goal.result) (pair_of c.value-value.result) (overflow c.in_err-difference.field-0.0)
    (violates_out ranges t c.args.leaving c.requires.1.holds)
    (goal_at ranges t c.args.leaving (range_of c.range-range.result) (pair_of c.value-value.result) (pair_of c.goal_of-goal.result) c.below.result c.goal_of-goal.ensures c.below.ensures c.range-range.ensures c.value-value.ensures)
    c.value-value.ensures c.in_err-difference.ensures.wide)

pub returns-in_err-quotient-clause-wide : goal.returns-in_err-quotient-clause-wide
returns-in_err-quotient-clause-wide c =
    let ranges = ranges_in c.args.bounds.now.held in
    let t = state_of c.args.self.now in
    told_wide (CheckOverflows ranges t) c.from_residual-in_err-quotient.result c.in_err-quotient.field-0.0 c.from_residual-in_err-quotient.ensures.1
    (overflows_quotient ranges t c.args.leaving c.args.entering (pair_of c.in_ok-difference.difference) (number_of c.entry_in.result) (overflow c.in_err-quotient.field-0.0)
    c.requires
    (gap_at ranges t c.args.leaving (pair_of c.goal_of-goal.result) (pair_of c.value-value.result) (pair_of c.in_ok-difference.difference)
    (goal_at ranges t c.args.leaving (range_of c.range-range.result) (pair_of c.value-value.result) (pair_of c.goal_of-goal.result) c.below.result c.goal_of-goal.ensures c.below.ensures c.range-range.ensures c.value-value.ensures)
    c.value-value.ensures c.in_ok-difference.ensures.exact)
    c.entry_in.ensures c.in_err-quotient.ensures.wide)
