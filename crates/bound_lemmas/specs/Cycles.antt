-- What literals of cycles are of atoms.
use Rattle.std.specs.Prelude.{List, All, Contains}
use Rattle.term_core.specs.declared.ids.TermId.{TermId}
use Rattle.simplex_explain.specs.declared.weighted.Weighted.{Weighted}

-- these literals are of the atoms
abbrev pub AreReasonsOf : List TermId → List Weighted → Type 0
AreReasonsOf atoms reasons = All (λ (r : Weighted). Contains atoms r.literal.term) reasons
