-- With no basis, no log, and nothing spent.
use Rattle.std.proofs.Common.{refl}
use Rattle.solve_core.proofs.outcome.overflowed.Goals as goal

pub returns : goal.returns
returns c = record {
  strain = record { wide = c.args.wide; basis = record { variables = c.new.result; values = c.new-2.result } };
  answer = refl;
  is = refl;
  basis = (c.new.ensures.items, c.new-2.ensures.items);
  log = c.new-4.ensures;
  budget = c.in_ok-budget.ensures;
}
