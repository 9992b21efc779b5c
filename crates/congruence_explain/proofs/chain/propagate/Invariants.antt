-- What was implied up to here.
use Rattle.std.proofs.Common.{length}
use Rattle.clause_literals.specs.Literals.{lists}
use Rattle.congruence_explain.proofs.Traced.{IsTraced}
use Rattle.congruence_explain.proofs.chain.propagate.Given as goal

abbrev pub invariant-steps : goal.invariant-steps
invariant-steps l = IsTraced (lists l.fn.premises.items) l.fn.held l.held l.implied.items (lists l.waiting.items)

abbrev pub decreases-steps : goal.decreases-steps
decreases-steps l = length l.waiting.items
