-- The entries up to here are those of the variables up to here.
use Rattle.std.proofs.Common.{take}
use Rattle.simplex_atoms.specs.Watching.{EntriesAreNumbered}
use Rattle.simplex_atoms.specs.Grown.{VariablesAreIn, Grown, LeadsByVariables}
use Rattle.simplex_atoms.proofs.numbering.entries_of.Given as goal

abbrev pub invariant-variables : goal.invariant-variables
invariant-variables l = record {
  grown : Grown (VariablesAreIn l.variables) l.initial.meanings l.initial.assignment l.meanings l.assignment;
  came : LeadsByVariables l.variables l.initial.meanings l.initial.assignment l.meanings l.assignment;
  so_far : EntriesAreNumbered l.meanings.owners.list l.entries.items (take l.at l.variables);
}
