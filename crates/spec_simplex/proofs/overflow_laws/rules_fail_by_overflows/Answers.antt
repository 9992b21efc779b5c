-- By the operations of the rule, of which each fails by its own overflow.
use Rattle.spec_simplex.proofs.RuleFaults.{numbers_too_wide, rule_too_wide}
use Rattle.spec_simplex.proofs.overflow_laws.rules_fail_by_overflows.Goals as goal

pub returns-clause-numbers : goal.returns-clause-numbers
returns-clause-numbers c = numbers_too_wide

pub returns-clause-arguments : goal.returns-clause-arguments
returns-clause-arguments c = rule_too_wide
