use Rattle.std.proofs.Common.{◌≤◌, length, map, ap, ◌∙◌, arith}
use Rattle.spec_tableaux.specs.Rows.{Row}
use Rattle.spec_tableaux.specs.Numbers.{Number}
use Rattle.simplex_bounds.specs.Deltas.{pair_of}
use Rattle.simplex_check.specs.Assignments.{AssignmentView}
use Rattle.simplex_check.proofs.RowPlaces.{basics_more, basics_all}
use Rattle.simplex_check.proofs.assignment.RealAssignment.basis.Goals as goal

pub loop-row-init : goal.loop-row-init
loop-row-init c = c.new-variables.ensures.items

pub loop-row-preserved : goal.loop-row-preserved
loop-row-preserved c =
    basics_more c.self.inside.tableau.rows c.loop-row.row c.loop-row.variables.items c.push.new.self.items c.basic.result (omega (arith, c.loop-row-test.true, c.rows_len-row-end.ensures)) c.loop-row.invariant c.in_ok-push.ensures.items c.basic.ensures

pub returns : goal.returns
returns c =
    let end : length c.self.inside.tableau.rows ≤ c.loop-row.row = omega (arith, c.loop-row-test.false, c.rows_len-row-end.ensures) in (
      c.loop-row.invariant ∙ ap (map (λ (r : Row Number). r.basic)) (basics_all c.self.inside.tableau.rows c.loop-row.row end) ∙ ap (λ (b : AssignmentView). map (λ (r : Row Number). r.basic) b.tableau.rows) c.self.view_is,
      ap (map pair_of) (c.in_ok-values.ensures.items ∙ c.deref.ensures.value) ∙ ap (λ (b : AssignmentView). b.values) c.self.view_is,
    )
