-- The complements up to here.
use Rattle.std.proofs.Common.{map, take}
use Rattle.clause_literals.specs.Literals.{lit_complement, IsConsistent}
use Rattle.clause_literals.specs.Literals.{SameLits}
use Rattle.clause_literals.proofs.assignment.start_of.Given as goal

abbrev pub invariant-loop-l : goal.invariant-loop-l
invariant-loop-l l = record { made : SameLits l.held (map lit_complement (take l.l-index l.clause)); consistent : IsConsistent l.held }
