use Rattle.std.proofs.Common.{subst}
use Rattle.proof_log.specs.Theories.{TheoryView}
use Rattle.held_literals.specs.Room.{AreHeldMarks}
use Rattle.held_literals.proofs.held.HeldLiterals.marks_are_prefixes.Goals as goal

pub returns : goal.returns
returns c = subst (λ (v : TheoryView). AreHeldMarks v.held v.watched v.marks) c.self.view_is c.self.invariant.1
