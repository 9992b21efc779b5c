-- What is kept of linear arithmetic after a call for which a mark was set.
use Rattle.std.proofs.Common.{◌≡◌, ℕ, List, sym, ap, subst}
use Rattle.spec_sorts.specs.Terms.{Term}
use Rattle.spec_causes.specs.Causes.{OverflowsAt}
use Rattle.ratio128.specs.Meant.{overflow}
use Rattle.term_core.specs.Tables.{TableView}
use Rattle.sat_budget.specs.Budgets.{StopsBy}
use Rattle.sat_budget.specs.declared.limits.Stop.{Stop}
use Rattle.proof_log.specs.Theories.{TheoryView}
use Rattle.held_literals.specs.Room.{without_mark}
use Rattle.simplex_bounds.specs.Held.{BoundsView}
use Rattle.simplex_check.specs.Assignments.{AssignmentView}
use Rattle.simplex_atoms.specs.Atoms.{AtomsView}
use Rattle.simplex_atoms.specs.TermTableauViews.{term_tableau_in, IsBasisAt}
use Rattle.simplex.specs.Views.{SimplexView}
use Rattle.simplex.specs.Coming.{CameBy, IsOverflowAt}
use Rattle.simplex.proofs.Coming.{came_same}

-- a stop is one where places and rows are the same
pub same_stop : (t : TableView) (ts : List Term) (v w : SimplexView) (stop : Stop) → w.atoms ≡ v.atoms → w.assignment ≡ v.assignment → StopsBy (λ s. IsOverflowAt t ts s v) stop → StopsBy (λ s. IsOverflowAt t ts s w) stop
same_stop t ts v w stop a b h =
    subst (λ (x : AtomsView). StopsBy (λ s. OverflowsAt ts (term_tableau_in t x.owners w.assignment) (overflow s.wide) × IsBasisAt (term_tableau_in t x.owners w.assignment) s.basis) stop) (sym a)
    (subst (λ (x : AssignmentView). StopsBy (λ s. OverflowsAt ts (term_tableau_in t v.atoms.owners x) (overflow s.wide) × IsBasisAt (term_tableau_in t v.atoms.owners x) s.basis) stop) (sym b) h)

-- a mark that is taken away changes nothing of how it came to are there
pub unmarked_came : (t : TableView) (ts : List Term) (n : ℕ) (es : List (ℕ × ℕ)) (v w : SimplexView) → CameBy t ts n es v → w.atoms ≡ v.atoms → w.assignment ≡ v.assignment → w.bounds ≡ v.bounds
    → w.theory ≡ without_mark v.theory → CameBy t ts n es w
unmarked_came t ts n es v w came a b bounds forgets =
    came_same t ts n es v w came a b (ap (λ (x : BoundsView). x.held) bounds) (ap (λ (x : TheoryView). x.watched) forgets) (ap (λ (x : TheoryView). x.held) forgets)
