-- Boards whose values keep the bounds of held literals do so at a number in the place of the infinitesimal.
use Rattle.std.proofs.Common.{◌≡◌, true, List, Contains, refl, sym, subst}
use Rattle.std.proofs.lemmas.List.Elements.{All-contains}
use Rattle.spec_tableaux.specs.Fields.{is_positive}
use Rattle.spec_tableaux.specs.Ranges.{Meets}
use Rattle.spec_tableaux.specs.Numbers.{Number, numbers}
use Rattle.term_core.specs.declared.ids.Lit.{Lit}
use Rattle.term_core.specs.Tables.{TableView}
use Rattle.simplex_bounds.specs.declared.bounds.Bound.{Bound}
use Rattle.simplex_bounds.specs.Deltas.{pair_of}
use Rattle.spec_tableaux.specs.Points.{deltas, point_in}
use Rattle.simplex_bounds.specs.Held.{BoundsView, ranges_in}
use Rattle.simplex_check.specs.Assignments.{AssignmentView}
use Rattle.simplex_check.proofs.Points.{same_point}
use Rattle.simplex_atoms.specs.Limits.{limit_of}
use Rattle.simplex_atoms.specs.Atoms.{AtomsView}
use Rattle.simplex_explain.specs.Stops.{IsStatedBound}
use Rattle.simplex_explain.specs.Keeping.{KeepsHeld}
use Rattle.simplex_explain.proofs.StatedBounds.{bounds_stated}
use Rattle.simplex_explain.proofs.Assignments.{fit}
use Rattle.simplex_numbers.specs.Values.{flat, assignment_at_number, IsInward, KeepsAt}
use Rattle.spec_tableaux.specs.Halves.{at_number}
use Rattle.simplex_numbers.proofs.Tilts.{inward}
use Rattle.simplex_numbers.proofs.Flat.{flat_solves, flat_point, flat_within}

module _ (t : TableView) (a : AtomsView) (b : AssignmentView) (bounds : BoundsView) (held : List Lit) (k : KeepsHeld t a b bounds held) (e : Number) (p : is_positive numbers e ≡ true) where
  bounds_inward : (x : Bound) → Contains bounds.held x → IsInward x.side (pair_of x.value).tilt
  bounds_inward x c =
      let is = All-contains (IsStatedBound a.slack_list) bounds.held x (bounds_stated a.slack_list held bounds.held k.bounds_are) c in
      inward is.slack x.literal (limit_of x) is.states

  pub held_at : KeepsAt e (ranges_in bounds.held) (point_in b.values) → KeepsHeld t a (assignment_at_number e b) bounds held
  held_at h = record {
    right = fit t a b (assignment_at_number e b) bounds k.right refl refl;
    tableau = k.tableau;
    unique = k.unique;
    bounds_are = k.bounds_are;
    known = k.known;
    meets = subst (Meets deltas b.tableau.rows (ranges_in bounds.held))
        (sym (same_point (point_in (assignment_at_number e b).values) (λ y. flat (at_number e (point_in b.values y))) (flat_point e b.values)))
        (record { solves = flat_solves e (point_in b.values) b.tableau.rows k.meets.solves; within = flat_within e p bounds.held bounds_inward (point_in b.values) h });
  }
