-- The stops of rows and forms as those of atoms.
use Rattle.tableau.specs.declared.stops.RowStop.{RowStop}
use Rattle.tableau.specs.declared.stops.RowStop.TheVariants as rows
use Rattle.linear_form.specs.declared.stop.FormFault.{FormFault}
use Rattle.linear_form.specs.declared.stop.FormFault.TheVariants as faults
use Rattle.linear_form.specs.declared.stop.FormStop.{FormStop}
use Rattle.linear_form.specs.declared.stop.FormStop.TheVariants as joins
use Rattle.simplex_atoms.specs.declared.stop.AtomStop.{AtomStop}
use Rattle.simplex_atoms.specs.declared.stop.AtomStop.TheVariants as stops

-- the stop of a row
abbrev pub of_row : RowStop → AtomStop
of_row (rows.Wide w) = stops.Wide w
of_row rows.Memory = stops.Memory

-- the fault of a form
abbrev pub of_fault : FormFault → AtomStop
of_fault (faults.Wide id w) = stops.Wide w
of_fault faults.Memory = stops.Memory

-- the stop of forms that are joined
abbrev pub of_join : FormStop → AtomStop
of_join (joins.Wide w) = stops.Wide w
of_join joins.Memory = stops.Memory
