-- By the value.
use Rattle.clause_store.proofs.Values.{false_by}
use Rattle.clause_store.proofs.literals.is_false.Goals as goal

pub returns-in-Some : goal.returns-in-Some
returns-in-Some c = false_by c.args.trail.now.literals c.is_sound.ensures.consistent c.args.l c.in-Some.sign (rw c.in-Some.is at c.value.ensures)
