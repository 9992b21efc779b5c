use Rattle.std.proofs.Common.{◌≡◌, ◌≤◌, ap, sym, ◌∙◌, arith, subst}
use Rattle.tableau.specs.Views.{TableauView, IsTableau}
use Rattle.simplex_bounds.specs.Held.{ranges_in}
use Rattle.simplex_check.specs.Assignments.{state_of}
use Rattle.simplex_check.proofs.RowPlaces.{none_out}
use Rattle.simplex_check.proofs.rule.find_leaving.Goals as goal

pub returns-then-is_out : goal.returns-then-is_out
returns-then-is_out c = record { holds = sym c.is_out.ensures ∙ c.if-is_out.true; least = c.loop-y.invariant }

pub returns : goal.returns
returns c =
    let n : c.variables_len-y-end.result ≡ c.args.assignment.now.tableau.variables = c.variables_len-y-end.ensures ∙ ap (λ (t : TableauView). t.variables) c.tableau-2.ensures in
    let end : c.args.assignment.now.tableau.variables ≤ c.loop-y.y = omega (arith, n, c.loop-y-test.false) in
    none_out (ranges_in c.args.bounds.now.held) (state_of c.args.assignment.now) c.args.assignment.now.tableau.variables c.loop-y.y end
    (subst (λ t. IsTableau t) c.tableau.ensures c.rows_are_in_solved_form.ensures).basics_below c.loop-y.invariant
