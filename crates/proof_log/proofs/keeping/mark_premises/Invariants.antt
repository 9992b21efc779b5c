-- The premises up to here are marked.
use Rattle.std.proofs.Common.{take}
use Rattle.proof_log.proofs.Marks.{IsMarking}
use Rattle.proof_log.proofs.keeping.mark_premises.Given as goal

abbrev pub invariant-premises : goal.invariant-premises
invariant-premises l = IsMarking l.fn.marks.items l.marks.items l.from (take l.p-index l.p-items)
