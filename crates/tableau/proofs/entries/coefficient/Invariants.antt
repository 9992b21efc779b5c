use Rattle.std.proofs.Common.{◌≡◌, length}
use Rattle.spec_tableaux.specs.Rows.{coefficient_of}
use Rattle.spec_tableaux.specs.Numbers.{numbers}
use Rattle.tableau.specs.Entries.{entries_of}
use Rattle.tableau.proofs.entries.coefficient.Given as goal

abbrev pub invariant-loop-e : goal.invariant-loop-e
invariant-loop-e l = coefficient_of numbers l.variable (entries_of l.rest) ≡ coefficient_of numbers l.variable (entries_of l.fn.entries)

abbrev pub decreases-loop-e : goal.decreases-loop-e
decreases-loop-e l = length l.rest
