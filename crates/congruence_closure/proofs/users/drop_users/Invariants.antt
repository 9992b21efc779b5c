use Rattle.congruence_closure.specs.Tables.{lists, HaveKeptBelow}
use Rattle.congruence_closure.proofs.users.drop_users.Given as goal

abbrev pub invariant-terms : goal.invariant-terms
invariant-terms l = HaveKeptBelow l.place (lists l.fn.all.items) (lists l.all.items)
