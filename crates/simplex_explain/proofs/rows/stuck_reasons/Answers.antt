-- Where the rule is stuck, the bounds contradict the row.
use Rattle.std.proofs.Common.{◌≡◌, List, sym, ◌∙◌, ap, subst}
use Rattle.spec_text.proofs.AnswerLaws.{told}
use Rattle.spec_tableaux.specs.Rows.{Entry, Row, row_of}
use Rattle.spec_tableaux.specs.Ranges.{below}
use Rattle.spec_tableaux.specs.LeastVariable.{goes_up}
use Rattle.spec_tableaux.specs.Numbers.{Number}
use Rattle.tableau.specs.Entries.{entries_of}
use Rattle.tableau.specs.Views.{TableauView, IsTableau}
use Rattle.spec_tableaux.specs.Points.{deltas}
use Rattle.simplex_bounds.specs.Held.{ranges_in}
use Rattle.simplex_check.specs.Assignments.{state_of}
use Rattle.spec_causes.specs.Reasons.{with_basic}
use Rattle.simplex_explain.specs.BoundReasons.{footing, OverflowsReasons, OnReasonOverflow}
use Rattle.simplex_explain.proofs.Distances.{row_contradiction}
use Rattle.simplex_explain.proofs.Telling.{of_held}
use Rattle.simplex_explain.proofs.rows.stuck_reasons.Goals as goal

pub reasons_for-requires-clause-stopped : goal.reasons_for-requires-clause-stopped
reasons_for-requires-clause-stopped c =
    let assignment = c.args.assignment.now in
    let held = c.args.bounds.now.held in
    let is : IsTableau assignment.tableau = subst IsTableau c.tableau-tableau.ensures c.rows_are_in_solved_form.ensures in
    let up : c.below-up.result ≡ goes_up deltas (ranges_in held) (state_of assignment) c.args.b = c.below-up.ensures ∙ (λ i. below deltas (c.value.ensures i) (c.range.ensures i).lower) in
    let es : entries_of c.entries-entries.result.now ≡ (row_of c.args.b assignment.tableau.rows).entries =
    c.entries-entries.ensures ∙ ap (λ (r : Row Number). r.entries) (sym c.in-Some.ensures.row.2) ∙ ap (λ (t : TableauView). (row_of c.args.b t.rows).entries) c.tableau-tableau.ensures in
    (row_contradiction held assignment.tableau.listed (state_of assignment) c.args.b c.below-up.result (entries_of c.entries-entries.result.now) up es is.solved is.same c.requires.nonbasic_updated c.requires.says).stopped

pub returns-in_err-reasons-clause-wide : goal.returns-in_err-reasons-clause-wide
returns-in_err-reasons-clause-wide c =
    let assignment = c.args.assignment.now in
    let held = c.args.bounds.now.held in
    let f = footing c.args.atoms.now c.args.bounds.now in
    let up : c.below-up.result ≡ goes_up deltas (ranges_in held) (state_of assignment) c.args.b = c.below-up.ensures ∙ (λ i. below deltas (c.value.ensures i) (c.range.ensures i).lower) in
    let es : entries_of c.entries-entries.result.now ≡ (row_of c.args.b assignment.tableau.rows).entries =
    c.entries-entries.ensures ∙ ap (λ (r : Row Number). r.entries) (sym c.in-Some.ensures.row.2) ∙ ap (λ (t : TableauView). (row_of c.args.b t.rows).entries) c.tableau-tableau.ensures in
    told (OnReasonOverflow (OverflowsReasons f (goes_up deltas (ranges_in held) (state_of assignment) c.args.b) (with_basic c.args.b (row_of c.args.b assignment.tableau.rows).entries))) c.from_residual.result c.in_err-reasons.field-0.0 c.from_residual.ensures.1
    (subst (λ u. OnReasonOverflow (OverflowsReasons f u (with_basic c.args.b (row_of c.args.b assignment.tableau.rows).entries)) c.in_err-reasons.field-0.0) up
    (subst (λ (r : List (Entry Number)). OnReasonOverflow (OverflowsReasons f c.below-up.result (with_basic c.args.b r)) c.in_err-reasons.field-0.0) es c.in_err-reasons.ensures.wide))

pub returns-clause-held : goal.returns-clause-held
returns-clause-held c = of_held (footing c.args.atoms.now c.args.bounds.now) c.below-up.result (with_basic c.args.b (entries_of c.entries-entries.result.now)) c.in_ok-reasons.reasons.items c.in_ok-reasons.ensures.reasons
