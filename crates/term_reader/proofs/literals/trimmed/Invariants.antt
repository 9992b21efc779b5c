use Rattle.std.proofs.Common.{◌≡◌, length}
use Rattle.spec_sorts.specs.Numerals.{trimmed}
use Rattle.term_reader.proofs.literals.trimmed.Given as goal

abbrev pub invariant-zeros : goal.invariant-zeros
invariant-zeros l = trimmed l.fn.digits ≡ trimmed l.rest

abbrev pub decreases-zeros : goal.decreases-zeros
decreases-zeros l = length l.rest
