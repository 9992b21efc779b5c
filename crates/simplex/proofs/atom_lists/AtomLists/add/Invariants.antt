-- Lists come, up to that of the variable.
use Rattle.std.proofs.Common.{◌-◌, length, suc}
use Rattle.simplex.proofs.atom_lists.AtomLists.add.Given as goal

abbrev pub decreases-variables : goal.decreases-variables
decreases-variables l = suc l.variable - length l.self.lists.items
