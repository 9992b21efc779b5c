-- The same variables wait, and there are as many signs.
use Rattle.std.proofs.Common.{◌≡◌, length}
use Rattle.search_loop.proofs.decider.Decider.affirm.Given as goal

abbrev pub invariant-ids : goal.invariant-ids
invariant-ids l = record {
  order : l.self-inside.order ≡ l.fn.self;
  phases : length l.self-inside.phases.items ≡ length l.self-inside.order;
}
