-- By the number of the clause.
use Rattle.std.proofs.Common.{suc, arith}
use Rattle.spec_derivations.proofs.Derived.{derived_true}
use Rattle.spec_derivations.proofs.laws.derivations_are_sound.Goals as goal

pub returns : goal.returns
returns c symbols d i right interprets formulas n there assumed = derived_true d symbols i (λ rule premises arguments clause over each by. c.rules_are_sound.ensures symbols rule premises arguments clause i interprets over each by) right formulas (suc n) n (omega arith) there assumed
