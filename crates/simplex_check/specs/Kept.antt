-- What the fields of an assignment mean.
use Rattle.std.specs.Prelude.{map}
use Rattle.simplex_bounds.specs.Deltas.{pair_of}
use Rattle.simplex_check.specs.declared.assignment.RealAssignment.TheInside.{Inside}
use Rattle.simplex_check.specs.Assignments.{AssignmentView, IsRealAssignment}

-- what the fields mean
abbrev pub assignment_view : Inside → AssignmentView
assignment_view b = record { tableau = b.tableau; values = map pair_of b.values.items }

-- the fields fit together
abbrev pub AssignmentFits : Inside → Type 0
AssignmentFits b = IsRealAssignment (assignment_view b)
