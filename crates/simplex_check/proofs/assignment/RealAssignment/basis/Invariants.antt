use Rattle.std.proofs.Common.{◌≡◌, map, take}
use Rattle.spec_tableaux.specs.Rows.{Row}
use Rattle.spec_tableaux.specs.Numbers.{Number}
use Rattle.simplex_check.proofs.assignment.RealAssignment.basis.Given as goal

abbrev pub invariant-loop-row : goal.invariant-loop-row
invariant-loop-row l = l.variables.items ≡ map (λ (r : Row Number). r.basic) (take l.row l.self-inside.tableau.rows)
