-- The same variables wait, and there are as many signs.
use Rattle.std.proofs.Common.{◌≡◌, length}
use Rattle.search_loop.proofs.decider.Decider.lean.Given as goal

abbrev pub invariant-atoms : goal.invariant-atoms
invariant-atoms l = record {
  order : l.self-inside.order ≡ l.fn.self;
  phases : length l.self-inside.phases.items ≡ length l.self-inside.order;
}
