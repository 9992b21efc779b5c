-- What was fetched up to here is known, and the rest is ready.
use Rattle.std.proofs.Common.{◌≡◌, ◌+◌, length, take, drop}
use Rattle.term_core.specs.Tables.{TableView}
use Rattle.linear_form.specs.Walks.{numbers_at, AreKnownForms, HoldsUsed}
use Rattle.linear_form.proofs.slots.fetch_all.Given as goal

abbrev pub invariant-uses : goal.invariant-uses
invariant-uses l = record {
  len : length l.slots.items ≡ length l.fn.slots.items;
  ready : (t : TableView) → HoldsUsed t l.plan.order.items l.plan.last.items l.fn.slots.items l.first → HoldsUsed t l.plan.order.items l.plan.last.items l.slots.items (l.first + l.done);
  known : (t : TableView) → HoldsUsed t l.plan.order.items l.plan.last.items l.fn.slots.items l.first → AreKnownForms t (take l.done (drop l.first (numbers_at l.plan.order.items l.plan.uses.items))) l.found.items;
}
