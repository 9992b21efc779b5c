-- The entries up to here were looked at.
use Rattle.watch_index.proofs.Renumbered.{AreRenumbered}
use Rattle.watch_index.proofs.renumbering.renumber.Given as goal

abbrev pub invariant-entries : goal.invariant-entries
invariant-entries l = AreRenumbered l.kept l.fn.list.items l.at l.to l.list.items
