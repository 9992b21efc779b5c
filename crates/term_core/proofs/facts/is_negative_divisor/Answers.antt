-- More than one term are not negated.
use Rattle.std.proofs.Common.{arith}
use Rattle.term_core.proofs.FactsOfNodes.{no_negative}
use Rattle.term_core.proofs.facts.is_negative_divisor.Goals as goal

pub returns-in_default-2 : goal.returns-in_default-2
returns-in_default-2 c = no_negative c.args.table.now c.args.ids.now (λ e. omega (arith, e, c.in_default.len_at_least))
