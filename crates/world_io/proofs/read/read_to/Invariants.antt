-- What was read is what was taken.
use Rattle.std.proofs.Common.{◌-◌, ◌+◌, ◌^◌, ◌≡◌, ◌≤◌, ◌<◌, ℕ, List, vec_len}
use Rattle.std.specs.Io.KnownBytes.{Consumes}
use Rattle.world_io.proofs.read.read_to.Given as goal

abbrev pub invariant-turns : goal.invariant-turns
invariant-turns g l = record {
  taken : Consumes (g.F.Shelf.left l.fn.shelf) (g.F.Shelf.left l.shelf) l.text.items;
  few : vec_len l.text < l.n + 2 ^ 16;
  same : (n : List ℕ) → g.F.Shelf.holds l.shelf n ≡ g.F.Shelf.holds l.fn.shelf n;
  count : g.F.Shelf.faults l.fn.shelf ≤ g.F.Shelf.faults l.shelf;
  sound : g.F.Shelf.is_sound l.fn.shelf → g.F.Shelf.is_sound l.shelf;
}

abbrev pub decreases-turns : goal.decreases-turns
decreases-turns g l = l.n - vec_len l.text
