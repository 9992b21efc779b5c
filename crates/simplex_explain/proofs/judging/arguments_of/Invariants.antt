-- The arguments up to here.
use Rattle.std.proofs.Common.{◌≡◌, map, take}
use Rattle.linear_form.specs.declared.coeff.Coeff.TheVariants.{Number}
use Rattle.simplex_explain.proofs.judging.arguments_of.Given as goal

abbrev pub invariant-loop-reason : goal.invariant-loop-reason
invariant-loop-reason l = l.arguments.items ≡ map (λ r. Number r.weight) (take l.reason-index l.reasons)
