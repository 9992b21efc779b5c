-- The terms up to here.
use Rattle.case_equalities.specs.Stating.{AreMade}
use Rattle.case_equalities.proofs.stating.cases_of.Given as goal

abbrev pub invariant-chains : goal.invariant-chains
invariant-chains g l = AreMade g.batch l.table l.clause.items
