use Rattle.std.proofs.Common.{◌≡◌, map, ap, sym, ◌∙◌, subst, ℕ}
use Rattle.ratio128.specs.Meant.{overflow}
use Rattle.spec_tableaux.specs.Deltas.{delta_added}
use Rattle.spec_tableaux.specs.LeastVariable.{RuleSays, Exchanges, exchange, distance, moved}
use Rattle.spec_tableaux.specs.CheckOverflows.{OverflowsExchange}
use Rattle.tableau.proofs.Telling.{told_wide, passed_on}
use Rattle.simplex_bounds.specs.Deltas.{pair_of}
use Rattle.spec_tableaux.specs.Points.{deltas, point_in, state_at, delta_in}
use Rattle.simplex_bounds.specs.Held.{ranges_in}
use Rattle.simplex_check.specs.Assignments.{AssignmentView, state_of}
use Rattle.simplex_check.specs.Changes.{Lead, written, is_changed}
use Rattle.simplex_check.specs.Suspects.{SuspectBut}
use Rattle.simplex_check.proofs.Suspecting.{suspect_exchange}
use Rattle.tableau.specs.Views.{TableauView}
use Rattle.simplex_check.specs.Kept.{assignment_view}
use Rattle.spec_tableaux.specs.BoundsOverflows.{CheckOverflows, OverflowsMove, sum}
use Rattle.simplex_check.proofs.Shifts.{lead_written, same_lengths, exchange_is_made, pivot_by_rule, entering_known, overflows_entering, overflows_rows}
use Rattle.simplex_check.proofs.assignment.RealAssignment.exchange.Goals as goal

pub returns-in_err-value-clause-wide : goal.returns-in_err-value-clause-wide
returns-in_err-value-clause-wide c =
    let ranges = ranges_in c.args.bounds.now.held in
    let t = state_of c.args.self.now in
    told_wide (CheckOverflows ranges t) c.from_residual-in_err-value.result c.in_err-value.field-0.0 c.from_residual-in_err-value.ensures.1
    (overflows_entering ranges t c.args.leaving c.args.entering (pair_of c.in_ok-d.d) c.requires.says c.in_ok-d.ensures.exact (overflow c.in_err-value.field-0.0)
    (sum (ap (λ v. delta_added (delta_in v) (delta_in (pair_of c.in_ok-d.d))) (sym c.value.ensures) ∙ c.in_err-value.ensures.wide)))

pub changes_of-requires-clause-known : goal.changes_of-requires-clause-known
changes_of-requires-clause-known c =
    let says = subst (λ (b : AssignmentView). RuleSays deltas (ranges_in c.args.bounds.now.held) (state_of b) (exchange c.args.leaving c.args.entering)) (sym c.self.view_is) c.requires.says in
    entering_known c.self.inside.tableau c.args.leaving c.args.entering c.rows_are_in_solved_form.ensures (pivot_by_rule (ranges_in c.args.bounds.now.held) (state_of (assignment_view c.self.inside)) c.args.leaving c.args.entering c.rows_are_in_solved_form.ensures.solved says)

pub changes_of-requires-clause-nonbasic : goal.changes_of-requires-clause-nonbasic
changes_of-requires-clause-nonbasic c =
    let says = subst (λ (b : AssignmentView). RuleSays deltas (ranges_in c.args.bounds.now.held) (state_of b) (exchange c.args.leaving c.args.entering)) (sym c.self.view_is) c.requires.says in
    (pivot_by_rule (ranges_in c.args.bounds.now.held) (state_of (assignment_view c.self.inside)) c.args.leaving c.args.entering c.rows_are_in_solved_form.ensures.solved says).nonbasic

pub returns-in_err-changes-clause-wide : goal.returns-in_err-changes-clause-wide
returns-in_err-changes-clause-wide c =
    let ranges = ranges_in c.args.bounds.now.held in
    let t = state_of c.args.self.now in
    passed_on (OverflowsMove (state_at c.self.inside.tableau.rows (map pair_of c.deref.result.now)) c.args.entering (pair_of c.in_ok-d.d)) (CheckOverflows ranges t) c.from_residual-in_err-changes.result c.in_err-changes.field-0.0
    (λ o h. overflows_entering ranges t c.args.leaving c.args.entering (pair_of c.in_ok-d.d) c.requires.says c.in_ok-d.ensures.exact o
    (subst (λ (b : AssignmentView). OverflowsMove (state_of b) c.args.entering (pair_of c.in_ok-d.d) o) c.self.view_is
    (subst (λ vs. OverflowsMove (state_at c.self.inside.tableau.rows (map pair_of vs)) c.args.entering (pair_of c.in_ok-d.d) o) c.deref.ensures.value h)))
    c.from_residual-in_err-changes.ensures.1 c.in_err-changes.ensures.wide

pub pivot-requires : goal.pivot-requires
pivot-requires c =
    let says = subst (λ (b : AssignmentView). RuleSays deltas (ranges_in c.args.bounds.now.held) (state_of b) (exchange c.args.leaving c.args.entering)) (sym c.self.view_is) c.requires.says in
    pivot_by_rule (ranges_in c.args.bounds.now.held) (state_of (assignment_view c.self.inside)) c.args.leaving c.args.entering c.rows_are_in_solved_form.ensures.solved says

pub returns-in_err-pivot-clause-wide : goal.returns-in_err-pivot-clause-wide
returns-in_err-pivot-clause-wide c =
    let ranges = ranges_in c.args.bounds.now.held in
    let t = state_of c.args.self.now in
    passed_on (OverflowsExchange c.self.inside.tableau.rows c.args.leaving c.args.entering) (CheckOverflows ranges t) c.from_residual-in_err-pivot.result c.in_err-pivot.field-0.0
    (λ o h. overflows_rows ranges t c.args.leaving c.args.entering c.requires.says o
    (subst (λ (b : AssignmentView). OverflowsExchange b.tableau.rows c.args.leaving c.args.entering o) c.self.view_is h))
    c.from_residual-in_err-pivot.ensures.1 c.in_err-pivot.ensures.wide

lead_at : (c : goal.After-drop-changes-2) → Lead (point_in (map pair_of c.self.inside.values.items)) (moved deltas c.self.inside.tableau.rows c.args.entering (pair_of c.in_ok-d.d) (point_in (map pair_of c.self.inside.values.items))) c.in_ok-changes.changes.items
lead_at c = subst (λ vs. Lead (point_in (map pair_of vs)) (moved deltas c.self.inside.tableau.rows c.args.entering (pair_of c.in_ok-d.d) (point_in (map pair_of vs))) c.in_ok-changes.changes.items) c.deref.ensures.value c.in_ok-changes.ensures.lead

values_at : (c : goal.After-drop-changes-2) → (y : ℕ) → point_in (map pair_of c.write.new.values.items) y
    ≡ moved deltas c.self.inside.tableau.rows c.args.entering (pair_of c.in_ok-d.d) (point_in (map pair_of c.self.inside.values.items)) y
values_at c =
    lead_written (point_in (map pair_of c.self.inside.values.items)) (moved deltas c.self.inside.tableau.rows c.args.entering (pair_of c.in_ok-d.d) (point_in (map pair_of c.self.inside.values.items))) c.in_ok-changes.changes.items (point_in (map pair_of c.write.new.values.items))
    (lead_at c) (λ y. c.write.ensures.point y ∙ ap (λ cs. written cs (point_in (map pair_of c.self.inside.values.items)) y) c.deref-3.ensures.value)

exchanged : (c : goal.After-drop-changes-2) → Exchanges deltas (ranges_in c.args.bounds.now.held) (state_of (assignment_view c.self.inside)) c.args.leaving c.args.entering (state_of (record { tableau = c.pivot.new.self; values = map pair_of c.write.new.values.items }))
exchanged c =
    let ranges = ranges_in c.args.bounds.now.held in
    let b = assignment_view c.self.inside in
    let says = subst (λ (b : AssignmentView). RuleSays deltas ranges (state_of b) (exchange c.args.leaving c.args.entering)) (sym c.self.view_is) c.requires.says in
    let exact : pair_of c.in_ok-d.d ≡ distance deltas ranges (state_of b) c.args.leaving c.args.entering = c.in_ok-d.ensures.exact ∙ ap (λ (b : AssignmentView). distance deltas ranges (state_of b) c.args.leaving c.args.entering) (sym c.self.view_is) in
    exchange_is_made ranges b c.pivot.new.self (map pair_of c.write.new.values.items) c.args.leaving c.args.entering c.rows_are_in_solved_form.ensures.solved c.self.invariant.solves
    (pivot_by_rule ranges (state_of b) c.args.leaving c.args.entering c.rows_are_in_solved_form.ensures.solved says) c.in_ok-pivot.ensures.ok
    (λ y. values_at c y ∙ ap (λ d. moved deltas c.self.inside.tableau.rows c.args.entering d (point_in b.values) y) exact)

pub invariant_of-self-2 : goal.invariant_of-self-2
invariant_of-self-2 c = record {
  lengths = same_lengths c.self.inside.values.items c.write.new.values.items c.pivot.new.self.variables c.write.ensures.lengths (c.self.invariant.lengths ∙ sym c.in_ok-pivot.ensures.variables);
  solves = (exchanged c).solves;
}

pub returns-clause-made : goal.returns-clause-made
returns-clause-made c =
    subst (λ (b : AssignmentView). Exchanges deltas (ranges_in c.args.bounds.now.held) (state_of b) c.args.leaving c.args.entering (state_of (record { tableau = c.pivot.new.self; values = map pair_of c.write.new.values.items }))) c.self.view_is (exchanged c)

pub returns-clause-suspect : goal.returns-clause-suspect
returns-clause-suspect c =
    let ranges = ranges_in c.args.bounds.now.held in
    let b = assignment_view c.self.inside in
    let says = subst (λ (b : AssignmentView). RuleSays deltas ranges (state_of b) (exchange c.args.leaving c.args.entering)) (sym c.self.view_is) c.requires.says in
    let before = subst (λ (b : AssignmentView). SuspectBut ranges (state_of b) c.args.leaving c.args.suspects.now) (sym c.self.view_is) c.requires.suspect in
    suspect_exchange ranges (state_of b) (state_of (record { tableau = c.pivot.new.self; values = map pair_of c.write.new.values.items })) c.args.leaving c.args.entering
    (moved deltas c.self.inside.tableau.rows c.args.entering (pair_of c.in_ok-d.d) (point_in b.values)) c.in_ok-changes.changes.items c.args.suspects.now c.add_all.new.self
    (pivot_by_rule ranges (state_of b) c.args.leaving c.args.entering c.rows_are_in_solved_form.ensures.solved says) (ap (λ (t : TableauView). t.rows) c.in_ok-pivot.ensures.ok)
    (lead_at c) (values_at c) c.in_ok-changes.ensures.first before c.in_ok-add_all.ensures.kept
    (λ z m. c.in_ok-add_all.ensures.added z (ap (is_changed z) c.deref-2.ensures.value ∙ m))
