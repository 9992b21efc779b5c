-- The way back from the false premise up to here.
use Rattle.congruence_explain.proofs.Backward.{HasWalked}
use Rattle.congruence_explain.proofs.chain.walk_back.Given as goal

abbrev pub invariant-steps : goal.invariant-steps
invariant-steps l = HasWalked l.trace.implied.items l.trace.last.items l.at l.needed
