-- The formulas up to here are marked.
use Rattle.std.proofs.Common.{All, take}
use Rattle.case_equalities.specs.Finding.{IsMarkedFormula}
use Rattle.case_equalities.proofs.judging.are_marked_formulas.Given as goal

abbrev pub invariant-ids : goal.invariant-ids
invariant-ids l = All (IsMarkedFormula l.table l.marks) (take l.id-index l.ids)
