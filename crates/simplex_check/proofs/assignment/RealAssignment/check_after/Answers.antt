use Rattle.std.proofs.Common.{subst}
use Rattle.tableau.specs.Views.{IsTableau}
use Rattle.simplex_bounds.specs.Held.{ranges_in}
use Rattle.simplex_check.proofs.Repeats.{repeats_no_state, few_exchanges}
use Rattle.simplex_check.proofs.assignment.RealAssignment.check_after.Goals as goal

pub returns-clause-no_state_twice : goal.returns-clause-no_state_twice
returns-clause-no_state_twice c =
    let t = subst IsTableau c.tableau.ensures c.rows_are_in_solved_form.ensures in
    repeats_no_state (ranges_in c.args.bounds.now.held) c.args.self.now c.run_after.new.self c.args.budget.now c.run_after.new.budget c.run_after.result t.solved c.run_after.ensures.ends

pub returns-clause-few : goal.returns-clause-few
returns-clause-few c =
    let t = subst IsTableau c.tableau.ensures c.rows_are_in_solved_form.ensures in
    few_exchanges (ranges_in c.args.bounds.now.held) c.args.self.now.tableau.variables c.args.self.now c.run_after.new.self c.args.budget.now c.run_after.new.budget c.run_after.result t.solved
    (record { basics = t.basics_below; entries = t.entries_below }) c.run_after.ensures.ends
