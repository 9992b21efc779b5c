-- The variables below the bound are as they were, and of those from it on no earlier one is in the order.
use Rattle.std.proofs.Common.{◌≡◌, ◌<◌, ◌≤◌, ℕ, false, length, get_or, take}
use Rattle.variable_order.proofs.order.VariableOrder.cut.Given as goal

abbrev pub invariant-out : goal.invariant-out
invariant-out l = record {
  count : length l.self ≡ length l.fn.self;
  front : take l.vars l.self ≡ take l.vars l.fn.self;
  gone : (k : ℕ) → l.vars ≤ k → k < l.v → get_or l.self k false ≡ false;
}
