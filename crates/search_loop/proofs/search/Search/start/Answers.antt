-- By what stays, and that nothing holds.
use Rattle.std.specs.Prelude.{min}
use Rattle.std.proofs.Common.{◌≡◌, ℕ, sym, ap, ◌∙◌, subst, arith}
use Rattle.std.proofs.Math.Nat.{min-eq_left}
use Rattle.sat_budget.specs.Budgets.{BudgetView}
use Rattle.sat_trail.specs.Trails.{TrailView, unassigned}
use Rattle.search_loop.specs.Growing.{HasStarted}
use Rattle.search_loop.proofs.SearchReady.{all_of_atoms}
use Rattle.search_loop.proofs.SearchStarts.{has_started}
use Rattle.search_loop.proofs.search.Search.start.Goals as goal

pub returns : goal.returns
returns c =
    let x = c.args.self.now in
    let limits = c.args.limits.now in
    let ws = c.put_all_back.new.self in
    let restarts = c.new-self.result in
    let n = c.len-self.result in
    let trail = c.clear.new.self in
    let budget = c.in_ok-budget.budget in
    let is : trail ≡ unassigned x.trail.vars = c.clear.ensures ∙ ap (λ (k : ℕ). unassigned (min k x.trail.vars)) c.vars-vars.ensures ∙ ap unassigned (min-eq_left (omega arith)) in
    subst (λ (v : TrailView). HasStarted limits x (record x { trail = v; decider = ws; restarts = restarts; budget = budget; fed = 0; since = n })) (sym is)
    (subst (λ (b : BudgetView). HasStarted limits x (record x { trail = unassigned x.trail.vars; decider = ws; restarts = restarts; budget = b; fed = 0; since = n })) (sym c.in_ok-budget.ensures)
    (has_started limits x ws restarts n c.len-self.ensures c.what_is_marked_was_seen.ensures.begun c.reasons_stay_right.ensures.cleared c.put_all_back.ensures.size
    (λ t r. c.put_all_back.ensures.waiting x.atoms.items (all_of_atoms t x r) r.waiting)))
