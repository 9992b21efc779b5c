use Rattle.std.proofs.Common.{◌≡◌, ◌<◌, ◌∷◌, ◌++◌, [], length, map, inl, inr, ap, sym, ◌∙◌, subst}
use Rattle.std.proofs.lemmas.List.{length-map, map-append}
use Rattle.ratio128.specs.Meant.{overflow}
use Rattle.spec_tableaux.specs.Rows.{sum_of}
use Rattle.spec_tableaux.specs.SolvedForms.{AllVariables}
use Rattle.spec_tableaux.specs.CheckOverflows.{OverflowsSum}
use Rattle.tableau.specs.Entries.{entries_of}
use Rattle.tableau.proofs.Telling.{told_wide, passed_on}
use Rattle.simplex_bounds.specs.Deltas.{pair_of}
use Rattle.spec_tableaux.specs.Points.{deltas, point_in}
use Rattle.simplex_check.specs.Assignments.{AssignmentView, state_of}
use Rattle.spec_tableaux.specs.BoundsOverflows.{OverflowsNew, OverflowsValue}
use Rattle.simplex_check.proofs.Summing.{sum_added}
use Rattle.simplex_check.proofs.assignment.RealAssignment.add_row.Goals as goal

pub sum_at-requires : goal.sum_at-requires
sum_at-requires c =
    let over = subst (λ (b : AssignmentView). AllVariables (λ y. y < b.tableau.variables) (entries_of c.args.entries.now)) (sym c.self.view_is) c.requires in
    let same : c.self.inside.tableau.variables ≡ length c.deref.result.now = sym c.self.invariant.lengths ∙ length-map c.self.inside.values.items pair_of ∙ sym (ap length c.deref.ensures.value) in
    subst (λ n. AllVariables (λ y. y < n) (entries_of c.args.entries.now)) same over

pub returns-in_err-value-clause-wide : goal.returns-in_err-value-clause-wide
returns-in_err-value-clause-wide c =
    told_wide (OverflowsNew (state_of c.args.self.now) (entries_of c.args.entries.now)) c.from_residual.result c.in_err-value.field-0.0 c.from_residual.ensures.1
    (inr (subst (λ (b : AssignmentView). OverflowsValue (point_in b.values) (entries_of c.args.entries.now) (overflow c.in_err-value.field-0.0)) c.self.view_is
    (subst (λ vs. OverflowsValue (point_in (map pair_of vs)) (entries_of c.args.entries.now) (overflow c.in_err-value.field-0.0)) c.deref.ensures.value c.in_err-value.ensures.wide)))

pub add_row-requires : goal.add_row-requires
add_row-requires c = subst (λ (b : AssignmentView). AllVariables (λ y. y < b.tableau.variables) (entries_of c.args.entries.now)) (sym c.self.view_is) c.requires

pub returns-in_err-add_row-clause-wide : goal.returns-in_err-add_row-clause-wide
returns-in_err-add_row-clause-wide c =
    passed_on (OverflowsSum c.self.inside.tableau.rows (entries_of c.args.entries.now)) (OverflowsNew (state_of c.args.self.now) (entries_of c.args.entries.now)) c.from_residual-in_err-add_row.result c.in_err-add_row.field-0.0
    (λ o h. inl (subst (λ (b : AssignmentView). OverflowsSum b.tableau.rows (entries_of c.args.entries.now) o) c.self.view_is h))
    c.from_residual-in_err-add_row.ensures.1 c.in_err-add_row.ensures.wide

pub invariant_of-self-2 : goal.invariant_of-self-2
invariant_of-self-2 c =
    let over = subst (λ (b : AssignmentView). AllVariables (λ y. y < b.tableau.variables) (entries_of c.args.entries.now)) (sym c.self.view_is) c.requires in
    sum_added c.self.inside.tableau c.add_row.new.self (map pair_of c.self.inside.values.items) (map pair_of c.push_reserved.new.self.items) (entries_of c.args.entries.now) (pair_of c.in_ok-value.value) c.rows_are_in_solved_form.ensures c.in_ok-add_row.ensures.ok.1
    (ap (map pair_of) (c.push_reserved.ensures.items ∙ ap (λ z. z ++ c.in_ok-value.value ∷ []) c.in_ok-reserve.ensures.items) ∙ map-append pair_of c.self.inside.values.items (c.in_ok-value.value ∷ []))
    (c.in_ok-value.ensures.value ∙ ap (λ vs. sum_of deltas (point_in (map pair_of vs)) (entries_of c.args.entries.now)) c.deref.ensures.value)
    over c.self.invariant.lengths c.self.invariant.solves
