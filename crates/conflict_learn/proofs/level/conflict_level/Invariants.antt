-- The greatest level of the literals up to here.
use Rattle.std.proofs.Common.{take}
use Rattle.spec_sorts.specs.Literals.{literals_of}
use Rattle.term_core.specs.Tables.{clause_at}
use Rattle.conflict_learn.specs.Analyses.{IsGreatestOf}
use Rattle.conflict_learn.proofs.level.conflict_level.Given as goal

abbrev pub invariant-loop-id : goal.invariant-loop-id
invariant-loop-id l = IsGreatestOf l.table l.trail (literals_of (clause_at l.table (take l.id-index l.id-items))) l.level
