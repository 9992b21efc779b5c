-- The last order leads back to the first one.
use Rattle.std.proofs.Common.{◌≡◌, ◌==◌, ◌<◌, ◌∙◌, ℕ, zero, suc, false, length, sym, arith, true≢false}
use Rattle.order_cycles.proofs.cycles.is_cycle.Goals as goal

pub returns : goal.returns
returns c e = record {
  some = above (length c.args.places.now) (sym c.is_empty.ensures ∙ c.if-is_empty.false);
  there = c.are_places.ensures c.if-not-are_places.false;
  joined = c.are_joined.ensures c.if-not-are_joined.false;
  closed = c.joins.ensures e;
}
  where
    above : (n : ℕ) → (n == 0) ≡ false → 0 < n
    above zero none = absurd (true≢false none)
    above (suc n) none = omega arith
