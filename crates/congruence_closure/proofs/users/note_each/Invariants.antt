use Rattle.std.proofs.Common.{take}
use Rattle.congruence_closure.specs.Tables.{lists, HaveKept, HaveNoted}
use Rattle.congruence_closure.proofs.users.note_each.Given as goal

abbrev pub invariant-terms : goal.invariant-terms
invariant-terms l = HaveKept (lists l.fn.all.items) (lists l.all.items) × HaveNoted (take l.t-index l.terms) l.place (lists l.all.items)
