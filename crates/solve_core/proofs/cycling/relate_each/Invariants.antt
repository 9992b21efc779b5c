-- What the clauses up to here leave, and the terms of the search that is there.
use Rattle.term_core.specs.Tables.{clause_at}
use Rattle.solve_core.specs.Relating.{HasRelated}
use Rattle.solve_core.proofs.cycling.relate_each.Given as goal

abbrev pub ghost-relate_cycle : goal.ghost-relate_cycle
ghost-relate_cycle a = clause_at a.table.now a.search.now.terms.items

abbrev pub invariant-cycles : goal.invariant-cycles
invariant-cycles l = HasRelated l.fn.table l.table l.fn.search l.search
