-- By what it was before it grew.
use Rattle.std.proofs.Common.{◌∙◌, ap}
use Rattle.sat_budget.specs.Budgets.{BudgetView}
use Rattle.search_loop.proofs.laws.grown_searches_begin.Goals as goal

pub returns-clause-begins : goal.returns-clause-begins
returns-clause-begins c = λ old new roots interface p earlier fresh grown to. record {
  ready = grown.ready;
  empty = grown.trail.literals ∙ fresh.empty;
  level = grown.trail.level ∙ fresh.level;
  fed = grown.fed ∙ fresh.fed;
  search = grown.search p earlier to;
  unlearned = ap (λ (b : BudgetView). b.learned) grown.budget ∙ fresh.unlearned;
  unspent = ap (λ (b : BudgetView). b.exchanges) grown.budget ∙ fresh.unspent;
}

pub returns-clause-empty : goal.returns-clause-empty
returns-clause-empty c = λ limits x e. record {
  empty = e.empty;
  level = e.level;
  fed = e.fed;
  unlearned = e.blank.learned;
  unspent = e.unspent;
}
