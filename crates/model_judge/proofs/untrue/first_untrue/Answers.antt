-- All are true.
use Rattle.std.proofs.Common.{sym, ◌∙◌, arith}
use Rattle.model_judge.proofs.Firsts.{first_nowhere}
use Rattle.model_judge.proofs.untrue.first_untrue.Goals as goal

pub returns : goal.returns
returns c i h = first_nowhere c.args.table.now i c.args.expressions.now c.rounds.place (omega (arith, c.rounds-test.false)) ∙ sym (c.rounds.invariant.passed i h)
