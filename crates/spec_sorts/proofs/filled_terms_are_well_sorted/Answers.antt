-- That arguments for parameters keep sorts.
use Rattle.std.proofs.lemmas.List.Elements.{recursion_from_All}
use Rattle.spec_sorts.specs.WellSorted.{IsWellSorted}
use Rattle.spec_sorts.proofs.WellSorted.{filled_sorted}
use Rattle.spec_sorts.proofs.filled_terms_are_well_sorted.Goals as goal

pub returns : goal.returns
returns c = λ symbols qs ps ts t w same each. filled_sorted symbols ps qs ts t w same (recursion_from_All (IsWellSorted symbols ps) ts each)
