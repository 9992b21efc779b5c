-- The entry is that of its variable.
use Rattle.simplex_atoms.proofs.numbering.entry_of.Goals as goal

pub returns-clause-came : goal.returns-clause-came
returns-clause-came c = c.in_ok-y.ensures.came c.args.variable.1
