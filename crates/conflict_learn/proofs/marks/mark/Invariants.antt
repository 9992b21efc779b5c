-- The literals up to here are marked.
use Rattle.std.proofs.Common.{take}
use Rattle.spec_sorts.specs.Literals.{literals_of}
use Rattle.term_core.specs.Tables.{clause_at}
use Rattle.conflict_learn.specs.Analyses.{MarksVariables}
use Rattle.conflict_learn.proofs.marks.mark.Given as goal

abbrev pub invariant-loop-id : goal.invariant-loop-id
invariant-loop-id l = MarksVariables l.table (literals_of (clause_at l.table (take l.id-index l.clause))) l.fn.marks.items l.marks.items
