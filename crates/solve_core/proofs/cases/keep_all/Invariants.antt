-- The clauses up to here are stored.
use Rattle.std.proofs.Common.{◌≡◌, take, All}
use Rattle.solve_core.specs.Beginning.{IsStored}
use Rattle.solve_core.specs.Relating.{HasRelated}
use Rattle.solve_core.proofs.cases.keep_all.Given as goal

abbrev pub invariant-found : goal.invariant-found
invariant-found l = record {
  related : HasRelated l.table l.table l.fn.search l.search;
  log : l.search.log ≡ l.fn.search.log;
  stored : All (IsStored l.table l.search) (take l.x-index l.found);
}
