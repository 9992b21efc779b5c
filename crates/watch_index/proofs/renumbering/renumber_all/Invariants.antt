-- The first lists have new numbers.
use Rattle.std.proofs.Common.{◌-◌, length}
use Rattle.clause_literals.specs.Literals.{lists}
use Rattle.watch_index.specs.Indexes.{renumbered}
use Rattle.watch_index.proofs.Changes.{AreChanged}
use Rattle.watch_index.proofs.renumbering.renumber_all.Given as goal

abbrev pub invariant-lists : goal.invariant-lists
invariant-lists l = AreChanged (renumbered l.kept) l.place (lists l.fn.all.items) (lists l.all.items)

abbrev pub decreases-lists : goal.decreases-lists
decreases-lists l = length l.all.items - l.place
