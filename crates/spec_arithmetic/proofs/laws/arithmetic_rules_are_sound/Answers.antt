-- By the sum of what false literals deny, and by the order of numbers.
use Rattle.std.proofs.lemmas.List.Elements.{recursion_from_All}
use Rattle.spec_sorts.specs.WellSorted.{IsFormulaOver}
use Rattle.spec_arithmetic.proofs.Sound.{rules_sound}
use Rattle.spec_arithmetic.proofs.laws.arithmetic_rules_are_sound.Goals as goal

pub returns : goal.returns
returns c = λ symbols rule premises arguments clause i interprets fs r.
    rules_sound symbols rule premises arguments clause i interprets (recursion_from_All (IsFormulaOver symbols) clause fs) r
