-- The merges that are left are the oldest ones.
use Rattle.std.proofs.Common.{◌≡◌, ◌≤◌, length, take}
use Rattle.class_table.proofs.rings.Rings.back.Given as goal

abbrev pub invariant-merges : goal.invariant-merges
invariant-merges l = record {
  terms : length l.self.numbers ≡ length l.fn.self.numbers;
  enough : l.mark.merges ≤ length l.self.merges;
  few : length l.self.merges ≤ length l.fn.self.merges;
  merges : l.self.merges ≡ take (length l.self.merges) l.fn.self.merges;
}

abbrev pub decreases-merges : goal.decreases-merges
decreases-merges l = length l.self.merges
