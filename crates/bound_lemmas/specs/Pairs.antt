-- What pairs of literals are of atoms.
use Rattle.std.specs.Prelude.{◌≡◌, ◌≢◌, List, [], ◌∷◌, Contains, Err}
use Rattle.spec_numbers.specs.Fractions.{one_fraction}
use Rattle.ratio128.specs.declared.ratio.Ratio.{Ratio}
use Rattle.ratio128.specs.Meant.{fraction}
use Rattle.term_core.specs.declared.ids.TermId.{TermId}
use Rattle.term_core.specs.Tables.{TableView}
use Rattle.linear_form.specs.declared.arith_fault.ArithFault.{ArithFault}
use Rattle.linear_form.specs.declared.arith_fault.ArithFault.TheVariants as faults
use Rattle.linear_form.specs.Sums.{JudgesSum}
use Rattle.simplex_explain.specs.declared.weighted.Weighted.{Weighted}
use Rattle.simplex_explain.specs.Steps.{judged}
use Rattle.bound_lemmas.specs.declared.cuts.Cut.{Cut}
use Rattle.bound_lemmas.specs.declared.pair.BoundPair.{BoundPair}

-- the literal of a cut is of one of the atoms
abbrev pub IsCutOf : List TermId → Cut → Type 0
IsCutOf atoms cut = Contains atoms cut.below.term

-- Two literals are of two of the atoms.
pub record IsPairOf (atoms : List TermId) (p : BoundPair) : Type 0 where
  -- the first is of one
  pub first : Contains atoms p.first.term
  -- and the second
  pub second : Contains atoms p.second.term
  -- these are not the same
  pub different : p.first.term ≢ p.second.term

-- the literals of a pair with their weights, of which the first is this number
abbrev pub weighted : Ratio → BoundPair → List Weighted
weighted one p = record { literal = p.first; weight = one } ∷ record { literal = p.second; weight = p.weight } ∷ []

-- The rule `la_generic` does not take the clause that some literals do not all hold.
pub record IsRefused (t : TableView) (reasons : List Weighted) : Type 0 where
  -- why it does not: that memory ran out is no reason
  pub fault : ArithFault
  pub not_memory : fault ≢ faults.Memory
  pub judges : JudgesSum (judged t reasons) (Err fault)

-- The rule does not take the clause that the two literals of a pair do not both hold.
pub record IsNotTaken (t : TableView) (p : BoundPair) : Type 0 where
  -- the weight of the first, which is 1
  pub one : Ratio
  pub is_one : fraction one ≡ one_fraction
  pub refused : IsRefused t (weighted one p)
