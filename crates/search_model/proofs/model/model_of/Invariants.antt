-- The tables by the terms up to here.
use Rattle.std.proofs.Common.{take, map}
use Rattle.ratio128.specs.Meant.{fraction}
use Rattle.term_core.specs.Tables.{clause_at}
use Rattle.search_model.specs.Models.{values_of}
use Rattle.search_model.specs.Made.{AreTables}
use Rattle.search_model.proofs.model.model_of.Given as goal

abbrev pub invariant-terms : goal.invariant-terms
invariant-terms l = AreTables l.table (values_of l.table l.trail.literals l.terms l.classes (map fraction l.numbers)) (clause_at l.table (take l.id-index l.terms)) l.tables.items
