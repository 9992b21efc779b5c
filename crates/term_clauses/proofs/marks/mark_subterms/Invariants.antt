-- The arguments of the numbers from here on are marked.
use Rattle.term_clauses.proofs.Marking.{IsMarkedFrom}
use Rattle.term_clauses.proofs.marks.mark_subterms.Given as goal

abbrev pub invariant-terms : goal.invariant-terms
invariant-terms l = record { so_far : IsMarkedFrom l.table l.roots l.number l.marks }
