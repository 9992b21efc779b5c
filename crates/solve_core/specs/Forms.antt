-- What comes of taking the forms of atoms before a search begins.
use Rattle.std.specs.Prelude.{◌≡◌, ◌<◌, List, Contains, Option, Some, None, Err}
use Rattle.spec_sorts.specs.Terms.{Term}
use Rattle.spec_arithmetic.specs.Forms.{Fault}
use Rattle.spec_simplex.specs.Constraints.{Constraint, constraint_of, form_of, HasForm}
use Rattle.spec_derivations.specs.Problems.{Problem, subterms_in}
use Rattle.ratio128.specs.declared.wide.Wide.{Wide}
use Rattle.ratio128.specs.Meant.{overflow}
use Rattle.term_core.specs.declared.ids.TermId.{TermId}
use Rattle.term_core.specs.Tables.{TableView, term_at, positive_literal}

-- The form of an atom fails first by this operation.
pub record FailsBy (atom : Term) (w : Wide) : Type 0 where
  -- what it says
  pub constraint : Constraint
  pub says : constraint_of (positive_literal atom) ≡ Some constraint
  -- the operation
  pub fault : Fault
  pub fails : form_of constraint ≡ Err fault
  pub is : fault.overflow ≡ overflow w

-- a term is no atom of linear arithmetic or has a form; or its form fails
abbrev pub FindsInForm : Term → Option Wide → Type 0
FindsInForm atom None = HasForm (positive_literal atom)
FindsInForm atom (Some w) = FailsBy atom w

-- The form of an atom among terms fails by this operation, and each atom among them with a lesser number has a form.
pub record IsFirstOverflow (t : TableView) (ts : List Term) (w : Wide) : Type 0 where
  -- the atom's number
  pub id : TermId
  pub there : Contains ts (term_at t id)
  -- the operation
  pub fails : FailsBy (term_at t id) w
  -- those before it
  pub before : (other : TermId) → other.0 < id.0 → Contains ts (term_at t other)
      → HasForm (positive_literal (term_at t other))

-- each atom among the subterms of a problem's terms has a form; or that of one of them fails, the first in order of
-- their numbers
abbrev pub FindsOverflow : TableView → Problem → Option Wide → Type 0
FindsOverflow t p None = (u : Term) → Contains (subterms_in p) u → HasForm (positive_literal u)
FindsOverflow t p (Some w) = IsFirstOverflow t (subterms_in p) w
