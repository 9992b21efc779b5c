use Rattle.std.proofs.Common.{◌≡◌, ◌<◌, ◌^◌, length}
use Rattle.spec_sorts.specs.Numerals.{number_after}
use Rattle.term_reader.proofs.literals.number_after.Given as goal

abbrev pub invariant-digits : goal.invariant-digits
invariant-digits l = (number_after l.fn.start l.fn.digits ≡ number_after l.number l.rest) × (l.number < 2 ^ 127)

abbrev pub decreases-digits : goal.decreases-digits
decreases-digits l = length l.rest
