-- Literals with weights of which nothing is known but that they are of watched atoms.
use Rattle.std.specs.Prelude.{List, All, IsSome, Contains}
use Rattle.simplex_atoms.specs.Slacks.{slack_in}
use Rattle.simplex_explain.specs.declared.weighted.Weighted.{Weighted}
use Rattle.simplex.specs.Views.{SimplexView}

-- A literal is one of a watched term with a place.
pub record IsOfAtom (v : SimplexView) (w : Weighted) : Type 0 where
  -- the term is watched
  pub watched : Contains v.theory.watched w.literal.term
  -- and has a place
  pub there : IsSome (slack_in v.atoms.slack_list w.literal.term)

-- so is each of these
abbrev pub AreOfAtoms : SimplexView → List Weighted → Type 0
AreOfAtoms v ws = All (IsOfAtom v) ws
