-- The numbers up to here.
use Rattle.std.proofs.Common.{◌≡◌, map, take}
use Rattle.linear_form.specs.declared.coeff.Coeff.TheVariants as coeffs
use Rattle.rule_bool.proofs.arguments.written_numbers.Given as goal

abbrev pub invariant-loop-number : goal.invariant-loop-number
invariant-loop-number l = l.found.items ≡ map coeffs.Number (take l.number-index l.numbers)
