-- Nothing is stated at first.
use Rattle.std.proofs.Common.{refl, ap}
use Rattle.sat_budget.specs.Budgets.{BudgetView}
use Rattle.spec_sessions.specs.States.{first_state}
use Rattle.smt_session.proofs.Taking.{first_held, nothing_asked}
use Rattle.smt_session.proofs.session.Session.new.Goals as goal

pub invariant_of-result : goal.invariant_of-result
invariant_of-result c =
    let terms = c.args.limits.now.terms in
    let held = first_held terms c.new-2.result c.new-3.result c.new-2.ensures c.new-3.ensures (c.commands_keep_stacks.ensures.first terms) c.commands_leave_script_names.ensures.first c.commands_leave_readable_definitions.ensures.first in
    ((first_state, record { stack = held; answer = refl; asked = nothing_asked _ _ first_state refl }), ap (λ (b : BudgetView). b.limit) c.in_ok-budget.ensures)

pub returns-clause-begun : goal.returns-clause-begun
returns-clause-begun c =
    let terms = c.args.limits.now.terms in
    let held = first_held terms c.new-2.result c.new-3.result c.new-2.ensures c.new-3.ensures (c.commands_keep_stacks.ensures.first terms) c.commands_leave_script_names.ensures.first c.commands_leave_readable_definitions.ensures.first in
    (record { stack = held; answer = refl; asked = nothing_asked _ _ first_state refl }, refl, refl)
