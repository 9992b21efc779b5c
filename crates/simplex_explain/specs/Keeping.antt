-- Values of an assignment that keep the bounds that held literals state.
use Rattle.std.specs.Prelude.{List, All}
use Rattle.spec_tableaux.specs.Ranges.{Meets}
use Rattle.term_core.specs.declared.ids.Lit.{Lit}
use Rattle.term_core.specs.Tables.{TableView, AreDifferent}
use Rattle.tableau.specs.Views.{IsTableau}
use Rattle.spec_tableaux.specs.Points.{deltas, point_in}
use Rattle.simplex_bounds.specs.Held.{BoundsView, ranges_in}
use Rattle.simplex_check.specs.Assignments.{AssignmentView}
use Rattle.simplex_atoms.specs.Atoms.{AtomsView, AtomsFit}
use Rattle.simplex_explain.specs.Stated.{AreBoundsOf, IsKnownIn}

-- The values of an assignment keep the bounds that are held, and these are those that the held literals state.
pub record KeepsHeld (t : TableView) (a : AtomsView) (b : AssignmentView) (bounds : BoundsView) (held : List Lit)
    : Type 0 where
  -- atoms fit
  pub right : AtomsFit t a b bounds
  -- so do rows
  pub tableau : IsTableau b.tableau
  -- different numbers mean different terms
  pub unique : AreDifferent t.terms
  -- the bounds are those of the literals
  pub bounds_are : AreBoundsOf a.slack_list held bounds.held
  -- the atom of each literal has a place, if it says something of linear arithmetic
  pub known : All (λ (l : Lit). IsKnownIn t a.slack_list l.term) held
  -- the values solve the rows and keep the bounds
  pub meets : Meets deltas b.tableau.rows (ranges_in bounds.held) (point_in b.values)
