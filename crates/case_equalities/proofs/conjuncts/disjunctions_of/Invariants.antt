-- What is listed are disjunctions among the conjuncts.
use Rattle.std.proofs.Common.{All}
use Rattle.term_core.specs.Tables.{clause_at}
use Rattle.case_equalities.specs.Finding.{IsDisjunctionIn}
use Rattle.case_equalities.proofs.conjuncts.disjunctions_of.Given as goal

abbrev pub invariant-terms : goal.invariant-terms
invariant-terms l = All (IsDisjunctionIn l.table (clause_at l.table l.roots)) l.ids.items
