-- Bounds can be held of ever more variables, up to n.
use Rattle.std.proofs.Common.{◌≤◌, ◌-◌}
use Rattle.simplex_atoms.specs.Atoms.{KeepBounds}
use Rattle.simplex_atoms.proofs.atoms.reach.Given as goal

abbrev pub invariant-variables : goal.invariant-variables
invariant-variables l = record { within : l.bounds.variables ≤ l.n; kept : KeepBounds l.initial.bounds l.bounds }

abbrev pub decreases-variables : goal.decreases-variables
decreases-variables l = l.n - l.bounds.variables
