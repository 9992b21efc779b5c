-- What the clauses up to here leave, and the terms of the search that is there.
use Rattle.term_core.specs.Tables.{clause_at}
use Rattle.solve_core.specs.Relating.{HasRelated}
use Rattle.solve_core.proofs.bounding.relate_marked.Given as goal

abbrev pub ghost-relate : goal.ghost-relate
ghost-relate a = clause_at a.table.now a.search.now.terms.items

abbrev pub invariant-pairs : goal.invariant-pairs
invariant-pairs l = HasRelated l.fn.table l.table l.fn.search l.search
