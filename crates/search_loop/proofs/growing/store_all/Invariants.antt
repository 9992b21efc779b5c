-- The clauses of the steps up to here are in the store.
use Rattle.std.proofs.Common.{take}
use Rattle.search_loop.specs.Growing.{StoresAll}
use Rattle.search_loop.proofs.SearchStored.{StayPaired}
use Rattle.search_loop.proofs.growing.store_all.Given as goal

abbrev pub invariant-steps : goal.invariant-steps
invariant-steps l = record {
  stores : StoresAll l.table l.log (take l.step-index l.steps) l.fn.store l.store;
  paired : StayPaired l.fn.store l.store;
}
