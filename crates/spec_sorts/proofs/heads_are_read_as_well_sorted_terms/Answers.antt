-- That heads are read as well-sorted terms.
use Rattle.std.proofs.lemmas.List.Elements.{recursion_from_All}
use Rattle.spec_sorts.specs.WellSorted.{IsWellSorted}
use Rattle.spec_sorts.proofs.SortedHeads.{head_keeps}
use Rattle.spec_sorts.proofs.heads_are_read_as_well_sorted_terms.Goals as goal

pub returns : goal.returns
returns c = λ n r e symbols ps ts count fit each. head_keeps symbols ps n r e ts count fit (recursion_from_All (IsWellSorted symbols ps) ts each)
