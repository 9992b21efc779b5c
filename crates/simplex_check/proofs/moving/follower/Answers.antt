use Rattle.std.proofs.Common.{◌<◌, map, sym, subst}
use Rattle.ratio128.specs.Meant.{overflow}
use Rattle.tableau.specs.Numbers.{number_of}
use Rattle.tableau.proofs.Telling.{told_wide}
use Rattle.simplex_bounds.specs.Deltas.{pair_of}
use Rattle.spec_tableaux.specs.Points.{point_in, state_at}
use Rattle.spec_tableaux.specs.BoundsOverflows.{OverflowsMove}
use Rattle.simplex_check.proofs.RowPlaces.{basic_of, coefficient_at}
use Rattle.simplex_check.proofs.Following.{follower_value, follower_product, follower_sum}
use Rattle.simplex_check.proofs.moving.follower.Goals as goal

pub returns-in_err-step-clause-wide : goal.returns-in_err-step-clause-wide
returns-in_err-step-clause-wide c =
    let rs = c.args.tableau.now.rows in
    told_wide (OverflowsMove (state_at rs (map pair_of c.args.values.now)) c.args.x (pair_of c.args.d)) c.from_residual.result c.in_err-step.field-0.0 c.from_residual.ensures.1
    (follower_product rs (map pair_of c.args.values.now) c.args.x (pair_of c.args.d) c.basic-variable.result (number_of c.entry-coefficient.result) (overflow c.in_err-step.field-0.0)
    (basic_of rs c.args.row c.basic-variable.result c.requires.row c.basic-variable.ensures)
    (coefficient_at rs c.args.row c.basic-variable.result c.args.x (number_of c.entry-coefficient.result) c.rows_are_in_solved_form.ensures.solved.distinct c.requires.row c.basic-variable.ensures c.entry-coefficient.ensures)
    c.in_err-step.ensures.wide)

pub value_at-old-requires : goal.value_at-old-requires
value_at-old-requires c = subst (λ n. c.basic-variable.result < n) (sym c.requires.lengths)
    (c.rows_are_in_solved_form.ensures.basics_below c.basic-variable.result (basic_of c.args.tableau.now.rows c.args.row c.basic-variable.result c.requires.row c.basic-variable.ensures))

pub returns-in_err-value-clause-wide : goal.returns-in_err-value-clause-wide
returns-in_err-value-clause-wide c =
    let rs = c.args.tableau.now.rows in
    told_wide (OverflowsMove (state_at rs (map pair_of c.args.values.now)) c.args.x (pair_of c.args.d)) c.from_residual-in_err-value.result c.in_err-value.field-0.0 c.from_residual-in_err-value.ensures.1
    (follower_sum rs (map pair_of c.args.values.now) c.args.x (pair_of c.args.d) c.basic-variable.result (number_of c.entry-coefficient.result) (pair_of c.value_at-old.result) (pair_of c.in_ok-step.step) (overflow c.in_err-value.field-0.0)
    (basic_of rs c.args.row c.basic-variable.result c.requires.row c.basic-variable.ensures)
    (coefficient_at rs c.args.row c.basic-variable.result c.args.x (number_of c.entry-coefficient.result) c.rows_are_in_solved_form.ensures.solved.distinct c.requires.row c.basic-variable.ensures c.entry-coefficient.ensures)
    c.in_ok-step.ensures.exact c.value_at-old.ensures c.in_err-value.ensures.wide)

pub returns-clause-known : goal.returns-clause-known
returns-clause-known c = c.rows_are_in_solved_form.ensures.basics_below c.basic-variable.result (basic_of c.args.tableau.now.rows c.args.row c.basic-variable.result c.requires.row c.basic-variable.ensures)

pub returns-clause-value : goal.returns-clause-value
returns-clause-value c =
    let rs = c.args.tableau.now.rows in
    follower_value rs c.args.x (pair_of c.args.d) (point_in (map pair_of c.args.values.now)) c.basic-variable.result (number_of c.entry-coefficient.result) (pair_of c.value_at-old.result) (pair_of c.in_ok-step.step) (pair_of c.in_ok-value.value)
    (basic_of rs c.args.row c.basic-variable.result c.requires.row c.basic-variable.ensures)
    (coefficient_at rs c.args.row c.basic-variable.result c.args.x (number_of c.entry-coefficient.result) c.rows_are_in_solved_form.ensures.solved.distinct c.requires.row c.basic-variable.ensures c.entry-coefficient.ensures)
    c.in_ok-step.ensures.exact c.value_at-old.ensures c.in_ok-value.ensures.exact
