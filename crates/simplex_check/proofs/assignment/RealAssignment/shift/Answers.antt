use Rattle.std.proofs.Common.{◌≡◌, ℕ, Bool, true, false, inl, inr, refl, map, ap, sym, ◌∙◌, subst}
use Rattle.std.specs.Prelude.{◌⊎◌}
use Rattle.spec_tableaux.specs.SolvedForms.{IsNonbasic}
use Rattle.spec_tableaux.specs.LeastVariable.{moved}
use Rattle.simplex_bounds.specs.Deltas.{pair_of}
use Rattle.spec_tableaux.specs.Points.{deltas, point_in}
use Rattle.simplex_check.specs.Assignments.{AssignmentView, IsRealAssignment}
use Rattle.simplex_check.specs.Changes.{Lead, written, is_changed}
use Rattle.simplex_check.specs.Suspects.{is_among, HaveSuspects}
use Rattle.simplex_check.proofs.Shifts.{lead_written, same_lengths, moved_solve}
use Rattle.simplex_check.proofs.assignment.RealAssignment.shift.Goals as goal

values_moved : (c : goal.After-drop-changes-2) → (y : ℕ) → point_in (map pair_of c.write.new.values.items) y
    ≡ moved deltas c.self.inside.tableau.rows c.args.first.variable (pair_of c.args.d) (point_in (map pair_of c.self.inside.values.items)) y
values_moved c =
    lead_written (point_in (map pair_of c.self.inside.values.items)) (moved deltas c.self.inside.tableau.rows c.args.first.variable (pair_of c.args.d) (point_in (map pair_of c.self.inside.values.items))) c.in_ok-changes.changes.items (point_in (map pair_of c.write.new.values.items))
    (subst (λ vs. Lead (point_in (map pair_of vs)) (moved deltas c.self.inside.tableau.rows c.args.first.variable (pair_of c.args.d) (point_in (map pair_of vs))) c.in_ok-changes.changes.items) c.deref.ensures.value c.in_ok-changes.ensures.lead)
    (λ y. c.write.ensures.point y ∙ ap (λ cs. written cs (point_in (map pair_of c.self.inside.values.items)) y) c.deref-3.ensures.value)

assignment_moved : (c : goal.After-drop-changes-2) → IsRealAssignment (record { tableau = c.self.inside.tableau; values = map pair_of c.write.new.values.items })
assignment_moved c = record {
  lengths = same_lengths c.self.inside.values.items c.write.new.values.items c.self.inside.tableau.variables c.write.ensures.lengths c.self.invariant.lengths;
  solves = moved_solve c.self.inside.tableau.rows c.args.first.variable (pair_of c.args.d) (point_in (map pair_of c.self.inside.values.items)) (point_in (map pair_of c.write.new.values.items)) c.rows_are_in_solved_form.ensures.solved
      (subst (λ (b : AssignmentView). IsNonbasic b.tableau.rows c.args.first.variable) (sym c.self.view_is) c.requires.nonbasic) (values_moved c) c.self.invariant.solves;
}

pub invariant_of-self : goal.invariant_of-self
invariant_of-self c = assignment_moved c

pub returns-clause-values : goal.returns-clause-values
returns-clause-values c =
    subst (λ (b : AssignmentView). (y : ℕ) → point_in (map pair_of c.write.new.values.items) y ≡ moved deltas b.tableau.rows c.args.first.variable (pair_of c.args.d) (point_in b.values) y) c.self.view_is (values_moved c)

pub returns-clause-assignment : goal.returns-clause-assignment
returns-clause-assignment c = assignment_moved c

pub returns-clause-suspect : goal.returns-clause-suspect
returns-clause-suspect c =
    subst (λ (b : AssignmentView). HaveSuspects b.values (map pair_of c.write.new.values.items) c.args.suspects.now c.add_all.new.self) c.self.view_is
    (record { kept = c.add_all.ensures.kept; noted = λ z. by z (is_changed z c.in_ok-changes.changes.items) refl })
  where
    lead : Lead (point_in (map pair_of c.self.inside.values.items)) (moved deltas c.self.inside.tableau.rows c.args.first.variable (pair_of c.args.d) (point_in (map pair_of c.self.inside.values.items))) c.in_ok-changes.changes.items
    lead = subst (λ vs. Lead (point_in (map pair_of vs)) (moved deltas c.self.inside.tableau.rows c.args.first.variable (pair_of c.args.d) (point_in (map pair_of vs))) c.in_ok-changes.changes.items) c.deref.ensures.value c.in_ok-changes.ensures.lead

    by : (z : ℕ) → (q : Bool) → is_changed z c.in_ok-changes.changes.items ≡ q
        → (is_among z c.add_all.new.self ≡ true) ⊎ (point_in (map pair_of c.write.new.values.items) z ≡ point_in (map pair_of c.self.inside.values.items) z)
    by z true e = inl (c.in_ok-add_all.ensures.added z (ap (is_changed z) c.deref-2.ensures.value ∙ e))
    by z false e = inr (values_moved c z ∙ lead.others z e)
