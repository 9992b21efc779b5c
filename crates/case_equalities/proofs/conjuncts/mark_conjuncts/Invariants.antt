-- What is marked are conjuncts.
use Rattle.std.proofs.Common.{◌≤◌, length}
use Rattle.term_core.specs.Tables.{clause_at}
use Rattle.case_equalities.specs.Finding.{AreConjuncts}
use Rattle.case_equalities.proofs.conjuncts.mark_conjuncts.Given as goal

abbrev pub invariant-terms : goal.invariant-terms
invariant-terms l = record { short : length l.marks ≤ length l.table.terms; are : AreConjuncts l.table (clause_at l.table l.roots) l.marks }
