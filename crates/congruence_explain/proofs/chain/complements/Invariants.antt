-- The complements up to here.
use Rattle.std.proofs.Common.{map, take}
use Rattle.clause_literals.specs.Literals.{lit_complement, SameLits}
use Rattle.congruence_explain.proofs.chain.complements.Given as goal

abbrev pub invariant-loop-l : goal.invariant-loop-l
invariant-loop-l l = SameLits l.held (map lit_complement (take l.l-index l.clause))
