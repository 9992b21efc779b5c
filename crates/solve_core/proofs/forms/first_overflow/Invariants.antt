-- The marked terms up to here have forms.
use Rattle.std.proofs.Common.{ℕ, ◌<◌, get_or}
use Rattle.spec_sorts.specs.Terms.{no_term}
use Rattle.spec_simplex.specs.Constraints.{HasForm}
use Rattle.term_core.specs.Tables.{positive_literal}
use Rattle.term_clauses.specs.Marks.{IsMarked}
use Rattle.solve_core.proofs.forms.first_overflow.Given as goal

abbrev pub invariant-marks : goal.invariant-marks
invariant-marks l = (k : ℕ) → k < l.number → IsMarked l.marks.items k → HasForm (positive_literal (get_or l.table.terms k no_term))
