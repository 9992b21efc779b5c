use Rattle.std.proofs.Common.{subst}
use Rattle.proof_log.specs.Theories.{TheoryView}
use Rattle.held_literals.specs.Room.{IsHeldOver}
use Rattle.held_literals.proofs.held.HeldLiterals.are_of_watched_terms.Goals as goal

pub returns : goal.returns
returns c = subst (λ (v : TheoryView). IsHeldOver v.held v.watched) c.self.view_is c.self.invariant.0.literals
