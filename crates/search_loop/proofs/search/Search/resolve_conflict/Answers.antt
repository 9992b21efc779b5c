-- What comes of a conflict.
use Rattle.std.proofs.Common.{rules, sym, subst, ap, refl, arith}
use Rattle.sat_budget.specs.Budgets.{BudgetView}
use Rattle.term_core.proofs.TermsExtend.{Extends-self}
use Rattle.search_loop.specs.declared.search.Search.{Search}
use Rattle.search_loop.specs.Appending.{Appends}
use Rattle.search_loop.proofs.SearchAppends.{appends_self}
use Rattle.search_loop.proofs.search.Search.resolve_conflict.Goals as goal

pub refuted-requires-clause-of_zero : goal.refuted-requires-clause-of_zero
refuted-requires-clause-of_zero g c = λ m n has f. let le = c.conflict_level.ensures.greatest m n has f in omega (arith, le, c.if-conflict_level-eq0.true)

pub returns-in_err-step : goal.returns-in_err-step
returns-in_err-step g c = record {
  grown = Extends-self c.args.table.now;
  declared = refl;
  with = search rules;
  came = search rules;
  right = search rules;
  ready = search rules;
  appended = search rules;
  limit = search rules;
  ended = search rules;
  resolves_conflict = search rules;
}

pub returns-then-conflict_level-eq0 : goal.returns-then-conflict_level-eq0
returns-then-conflict_level-eq0 g c = record {
  grown = Extends-self c.args.table.now;
  declared = refl;
  with = c.requires.going.with;
  came = λ ts n h. subst (λ (b : BudgetView). (g.T.Theory.meaning c.args.theory.now).running.came_by c.args.table.now ts n b.exchanges) (sym c.refuted.ensures.budget) h;
  right = c.in_ok-step.ensures.right;
  ready = c.in_ok-step.ensures.ready;
  appended = c.in_ok-step.ensures.appended;
  limit = ap (λ (b : BudgetView). b.limit) c.refuted.ensures.budget;
  ended = (c.refuted.ensures.terms, c.refuted.ensures.budget);
  resolves_conflict = c.in_ok-step.ensures.shows;
}

-- the budget is spent
pub returns-in-Some : goal.returns-in-Some
returns-in-Some g c =
    let t = c.args.table.now in
    let u = c.forgo.new.table in
    let grown = c.forgo.ensures.grown in
    let forgone = c.in_ok-forgo.ensures in
    let lawful = g.met.T.Theory.lawful c.args.theory.now in
    record {
      grown = grown;
      declared = c.forgo.ensures.declared;
      with = lawful.grown t u grown c.requires.going.with;
      came = λ ts n h. subst (λ (s : Search). (g.T.Theory.meaning c.args.theory.now).running.came_by u ts n s.budget.exchanges) (sym forgone.same)
          (lawful.came_grown t u grown c.requires.going.with ts n c.args.self.now.budget.exchanges h);
      right = forgone.right;
      ready = forgone.ready;
      appended = subst (Appends c.args.self.now) (sym forgone.same) (appends_self c.args.self.now);
      limit = ap (λ (s : Search). s.budget.limit) forgone.same;
      ended = (ap (λ (s : Search). s.terms) forgone.same, ap (λ (s : Search). s.budget) forgone.same);
      resolves_conflict = forgone.shows c.in-Some.n c.in-Some.ensures.0 c.in-Some.ensures.1;
    }

pub returns : goal.returns
returns g c =
    let learns = c.in_ok-learn_and_go_back.ensures.learns in
    record {
      grown = c.learn_and_go_back.ensures.grown;
      declared = c.learn_and_go_back.ensures.declared;
      with = learns.with;
      came = learns.came;
      right = learns.learned.ready.right;
      ready = learns.learned.ready;
      appended = learns.learned.continues.appended;
      limit = learns.learned.continues.limit;
      ended = tt;
      resolves_conflict = (learns.learned, learns.asked, c.in_default.ensures);
    }
