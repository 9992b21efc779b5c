use Rattle.std.proofs.Common.{◌<◌, length}
use Rattle.spec_tableaux.specs.SolvedForms.{AllVariables}
use Rattle.tableau.specs.Entries.{entries_of}
use Rattle.simplex_tests.proofs.checked.are_below.Given as goal

abbrev pub invariant-loop-e : goal.invariant-loop-e
invariant-loop-e l = AllVariables (λ y. y < l.fn.number) (entries_of l.rest) → AllVariables (λ y. y < l.fn.number) (entries_of l.fn.entries)

abbrev pub decreases-loop-e : goal.decreases-loop-e
decreases-loop-e l = length l.rest
