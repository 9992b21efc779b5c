-- The batch is the same, and what is put is made of its terms.
use Rattle.term_clauses.specs.Stating.{Widens}
use Rattle.case_equalities.specs.Stating.{AreMade}
use Rattle.case_equalities.proofs.casing.chain_clause.Given as goal

abbrev pub ghost-denial : goal.ghost-denial
ghost-denial g a = g.batch

abbrev pub invariant-equalities : goal.invariant-equalities
invariant-equalities g l = record {
  wider : Widens l.fn.table l.table;
  made : AreMade g.batch l.table l.clause.items;
}
