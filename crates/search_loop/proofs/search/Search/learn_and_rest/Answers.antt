-- What was learned stays at level 0.
use Rattle.std.proofs.Common.{◌∙◌, length, sym, ap, subst}
use Rattle.sat_budget.specs.Budgets.{BudgetView}
use Rattle.search_loop.proofs.SearchAppends.{appends_on}
use Rattle.search_loop.proofs.SearchRounds.{continues_on}
use Rattle.search_loop.proofs.search.Search.learn_and_rest.Goals as goal

pub returns-clause-resolves : goal.returns-clause-resolves
returns-clause-resolves g c =
    let t = c.args.table.now in
    let x = c.args.self.now in
    let u = c.resolve_conflict.new.table in
    let y = c.resolve_conflict.new.self in
    let z = c.rest.new.self in
    let resolves = rw c.in_default.is at c.in_ok-end.ensures.resolves_conflict in
    let learned = resolves.0 in
    let rests = c.rest.ensures in
    let ready = rests.ready u learned.ready in
    record {
      grown = c.resolve_conflict.ensures.grown;
      declared = c.resolve_conflict.ensures.declared;
      with = rests.keeps.with u c.in_ok-end.ensures.with;
      came = λ ts n h. subst (λ (b : BudgetView). (g.T.Theory.meaning c.rest.new.theory).running.came_by u ts n b.exchanges) (sym rests.budget)
          (rests.keeps.came u ts n y.budget.exchanges (c.in_ok-end.ensures.came ts n h));
      right = ready.right;
      ready = ready;
      appended = appends_on c.args.self.now y z learned.continues.appended (rests.continues u).appended;
      limit = ap (λ (b : BudgetView). b.limit) rests.budget ∙ c.in_ok-end.ensures.limit;
      ended = tt;
      resolves_conflict = (
        record {
          ready = ready;
          continues = continues_on t u u x y z learned.continues (rests.continues u);
          learned = ap (λ (b : BudgetView). length b.learned) rests.budget ∙ learned.learned;
        },
        rests.asked,
        resolves.2,
      );
    }
