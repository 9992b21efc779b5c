-- The literals up to here.
use Rattle.std.proofs.Common.{take}
use Rattle.congruence_explain.specs.Needing.{HasLeft}
use Rattle.congruence_explain.proofs.chain.left_of.Given as goal

abbrev pub invariant-loop-m : goal.invariant-loop-m
invariant-loop-m l = HasLeft l.held (take l.m-index l.clause) l.left
