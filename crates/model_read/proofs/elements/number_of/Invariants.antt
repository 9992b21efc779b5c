-- The number that all digits write is that of those that are left.
use Rattle.std.proofs.Common.{◌≡◌, ◌<◌, ◌^◌, length}
use Rattle.spec_sorts.specs.Numerals.{number_after}
use Rattle.model_read.proofs.elements.number_of.Given as goal

abbrev pub invariant-digits : goal.invariant-digits
invariant-digits l = (number_after 0 l.digits ≡ number_after l.number l.rest) × (l.number < 2 ^ 64)

abbrev pub decreases-digits : goal.decreases-digits
decreases-digits l = length l.rest
