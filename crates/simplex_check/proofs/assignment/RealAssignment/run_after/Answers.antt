use Rattle.std.proofs.Common.{◌∷◌, ◌++◌, [], ap, ◌∙◌, refl, subst}
use Rattle.tableau.specs.Views.{TableauView, IsTableau}
use Rattle.sat_budget.specs.Budgets.{BudgetView}
use Rattle.simplex_bounds.specs.Held.{ranges_in}
use Rattle.simplex_check.specs.Assignments.{state_of}
use Rattle.simplex_check.proofs.Runs.{ran_none, ran_more, ran_short, ends_updating, ends_exchanging, budget_more}
use Rattle.simplex_check.proofs.Repeats.{few_ran}
use Rattle.simplex_check.proofs.assignment.RealAssignment.run_after.Goals as goal

pub returns-in-Err-clause-ends : goal.returns-in-Err-clause-ends
returns-in-Err-clause-ends c = ends_updating (ranges_in c.args.bounds.now.held) c.args.self.now c.update_nonbasic.new.self c.args.budget.now c.in-Err.stop c.in-Err.ensures.stops

pub steps-init : goal.steps-init
steps-init c =
    let t = subst IsTableau c.tableau.ensures c.rows_are_in_solved_form.ensures in
    let ran = ran_none (ranges_in c.args.bounds.now.held) (state_of c.args.self.now) (state_of c.update_nonbasic.new.self) c.args.budget.now.exchanges c.in-Ok.ensures.updates_nonbasic.0 in
    let few = few_ran (ranges_in c.args.bounds.now.held) c.args.self.now.tableau.variables (state_of c.args.self.now) (state_of c.update_nonbasic.new.self) c.args.budget.now.exchanges c.args.budget.now.exchanges
    t.solved (record { basics = t.basics_below; entries = t.entries_below }) ran in
    record {
      ran = ran;
      start = t;
      variables = ap (λ (t : TableauView). t.variables) c.update_nonbasic.ensures.tableau;
      listed = ap (λ (t : TableauView). t.listed) c.update_nonbasic.ensures.tableau;
      budget = refl;
      suspect = c.in-Ok.ensures.updates_nonbasic.1;
      uncrossed = c.in_default.ensures;
      more = few.0;
      few = few.1;
    }

pub steps-preserved : goal.steps-preserved
steps-preserved c =
    let i = c.steps.invariant in
    let ran = ran_more (ranges_in c.args.bounds.now.held) (state_of c.args.self.now) (state_of c.steps.self) (state_of c.exchange_or_stop.new.self) c.args.budget.now.exchanges c.steps.budget.exchanges c.exchanged.new.self.exchanges
    (c.in-Exchange.leaving, c.in-Exchange.entering) i.ran (ap (λ (b : BudgetView). b.exchanges) c.in-Ok-exchanged.ensures) c.in-Exchange.ensures.says c.in-Ok-exchange_or_stop.ensures.made in
    let few = few_ran (ranges_in c.args.bounds.now.held) c.args.self.now.tableau.variables (state_of c.args.self.now) (state_of c.exchange_or_stop.new.self) c.args.budget.now.exchanges c.exchanged.new.self.exchanges
    i.start.solved (record { basics = i.start.basics_below; entries = i.start.entries_below }) ran in
    record {
      ran = ran;
      start = i.start;
      variables = c.in-Ok-exchange_or_stop.ensures.variables ∙ i.variables;
      listed = c.in-Ok-exchange_or_stop.ensures.listed ∙ i.listed;
      budget = budget_more c.args.budget.now c.steps.budget c.exchanged.new.self (c.steps.budget.exchanges ++ (c.in-Exchange.leaving, c.in-Exchange.entering) ∷ []) i.budget c.in-Ok-exchanged.ensures;
      suspect = c.in-Ok-exchange_or_stop.ensures.suspect;
      uncrossed = i.uncrossed;
      more = few.0;
      few = few.1;
    }

pub returns-in-Err-exchange_or_stop-clause-ends : goal.returns-in-Err-exchange_or_stop-clause-ends
returns-in-Err-exchange_or_stop-clause-ends c =
    ends_exchanging (ranges_in c.args.bounds.now.held) c.args.self.now c.exchange_or_stop.new.self c.args.budget.now c.exchanged.new.self c.in-Err-exchange_or_stop.stop
    (ran_short (ranges_in c.args.bounds.now.held) (state_of c.args.self.now) c.steps.self c.exchange_or_stop.new.self c.args.budget.now.exchanges c.steps.budget.exchanges c.exchanged.new.self.exchanges
    (c.in-Exchange.leaving, c.in-Exchange.entering) c.steps.invariant.ran (ap (λ (b : BudgetView). b.exchanges) c.in-Ok-exchanged.ensures) c.in-Exchange.ensures.says c.in-Err-exchange_or_stop.ensures.same)
    c.in-Err-exchange_or_stop.ensures.stops
