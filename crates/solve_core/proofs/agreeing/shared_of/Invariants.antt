-- What is stated of the terms up to here.
use Rattle.std.proofs.Common.{map}
use Rattle.ratio128.specs.Meant.{fraction}
use Rattle.solve_core.specs.Agreeing.{AreTheoryValuesBelow}
use Rattle.solve_core.proofs.agreeing.shared_of.Given as goal

abbrev pub invariant-places : goal.invariant-places
invariant-places l = AreTheoryValuesBelow l.shared l.assigned_values.classes.items (map fraction l.assigned_values.numbers.items) l.from l.at l.xs.items
