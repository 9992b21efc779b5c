-- The digits that are left, after the number of those before them, write what all do.
use Rattle.std.proofs.Common.{◌≡◌, ◌<◌, ◌^◌, length}
use Rattle.spec_sorts.specs.Numerals.{number_after}
use Rattle.spec_commands.specs.Commands.{number_of_levels}
use Rattle.smt_command.proofs.shapes.number_of.Given as goal

abbrev pub invariant-digits : goal.invariant-digits
invariant-digits l = (number_of_levels (number_after 0 l.fn.digits) ≡ number_of_levels (number_after l.number l.rest)) × (l.number < 2 ^ 64)

abbrev pub decreases-digits : goal.decreases-digits
decreases-digits l = length l.rest
