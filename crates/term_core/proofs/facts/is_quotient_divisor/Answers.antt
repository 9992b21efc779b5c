-- Other than two terms are no quotient.
use Rattle.std.proofs.Common.{arith}
use Rattle.term_core.proofs.FactsOfNodes.{no_quotient}
use Rattle.term_core.proofs.facts.is_quotient_divisor.Goals as goal

pub returns-in_default : goal.returns-in_default
returns-in_default c = no_quotient c.args.table.now c.args.ids.now (λ e. omega (arith, e, c.in_default.len_below))

pub returns-in_default-2 : goal.returns-in_default-2
returns-in_default-2 c = no_quotient c.args.table.now c.args.ids.now (λ e. omega (arith, e, c.in_default.len_at_least))
