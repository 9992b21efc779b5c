-- What was read, and what the texts that are left write.
use Rattle.std.proofs.Common.{◌≡◌, ◌++◌}
use Rattle.smt_sexpr.specs.Items.{trees_meant, size_of}
use Rattle.linear_form.specs.Coefficients.{coefficients_meant}
use Rattle.spec_arithmetic.specs.Coefficients.{coefficients_of}
use Rattle.alethe_reader.proofs.coefficients.written.Given as goal

abbrev pub invariant-texts : goal.invariant-texts
invariant-texts l = coefficients_meant l.found.items ++ coefficients_of (trees_meant l.rest) ≡ coefficients_of (trees_meant l.texts)

abbrev pub decreases-texts : goal.decreases-texts
decreases-texts l = size_of l.rest
