-- The weights up to here.
use Rattle.std.proofs.Common.{◌≡◌, take}
use Rattle.simplex_explain.specs.Reasons.{weights_of}
use Rattle.simplex_explain.proofs.stating.weights_of.Given as goal

abbrev pub invariant-loop-reason : goal.invariant-loop-reason
invariant-loop-reason l = l.weights.items ≡ weights_of (take l.reason-index l.reasons)
