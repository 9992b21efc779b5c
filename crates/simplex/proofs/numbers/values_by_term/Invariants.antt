-- The values up to here are given.
use Rattle.std.proofs.Common.{nat_eq}
use Rattle.std.specs.HashMap.{get}
use Rattle.simplex.specs.Values.{TellsValues}
use Rattle.simplex.proofs.numbers.values_by_term.Given as goal

abbrev pub invariant-slacks : goal.invariant-slacks
invariant-slacks l = TellsValues (get nat_eq l.known) l.terms l.values l.at
