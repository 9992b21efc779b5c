-- By the value.
use Rattle.clause_store.proofs.Values.{true_by}
use Rattle.clause_store.proofs.literals.is_true.Goals as goal

pub returns-in-Some : goal.returns-in-Some
returns-in-Some c = true_by c.args.trail.now.literals c.is_sound.ensures.consistent c.args.l c.in-Some.sign (rw c.in-Some.is at c.value.ensures)
