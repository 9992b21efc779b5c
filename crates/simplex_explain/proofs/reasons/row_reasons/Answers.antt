-- Where the rule is stuck, the bounds contradict the row.
use Rattle.std.proofs.Common.{subst}
use Rattle.spec_text.proofs.AnswerLaws.{told}
use Rattle.spec_tableaux.specs.Rows.{row_of}
use Rattle.spec_tableaux.specs.LeastVariable.{goes_up}
use Rattle.tableau.specs.Views.{IsTableau}
use Rattle.spec_tableaux.specs.Points.{deltas}
use Rattle.simplex_bounds.specs.Held.{ranges_in}
use Rattle.simplex_check.specs.Assignments.{state_of}
use Rattle.spec_causes.specs.Reasons.{with_basic}
use Rattle.simplex_explain.specs.BoundReasons.{footing, OverflowsReasons, OnReasonOverflow}
use Rattle.simplex_explain.proofs.Distances.{stuck_contradicts}
use Rattle.simplex_explain.proofs.Pieces.{LimitLaws}
use Rattle.simplex_explain.proofs.Refuting.{refutes}
use Rattle.simplex_explain.proofs.reasons.row_reasons.Goals as goal

pub stuck_reasons-requires-clause-factors : goal.stuck_reasons-requires-clause-factors
stuck_reasons-requires-clause-factors g c = λ id slack e. (c.requires.0.are_slacked id slack e).is.is.factor

pub returns-in_err-reasons-clause-wide : goal.returns-in_err-reasons-clause-wide
returns-in_err-reasons-clause-wide g c =
    let assignment = c.args.assignment.now in
    let up = goes_up deltas (ranges_in c.args.bounds.now.held) (state_of assignment) c.args.b in
    told (OnReasonOverflow (OverflowsReasons (footing c.args.atoms.now c.args.bounds.now) up (with_basic c.args.b (row_of c.args.b assignment.tableau.rows).entries))) c.from_residual.result c.in_err-reasons.field-0.0
    c.from_residual.ensures.1 c.in_err-reasons.ensures.wide

pub returns-clause-refutes : goal.returns-clause-refutes
returns-clause-refutes g c =
    let assignment = c.args.assignment.now in
    let held = c.args.bounds.now.held in
    let up = goes_up deltas (ranges_in held) (state_of assignment) c.args.b in
    let is : IsTableau assignment.tableau = subst IsTableau c.tableau.ensures c.rows_are_in_solved_form.ensures in
    let laws : LimitLaws = record { states = c.bounds_have_weights.ensures.states; tilt = c.bounds_have_weights.ensures.tilt } in
    refutes laws g.t c.args.atoms.now.owners assignment.tableau.listed 0 assignment.tableau.variables (footing c.args.atoms.now c.args.bounds.now) up (with_basic c.args.b (row_of c.args.b assignment.tableau.rows).entries) c.in_ok-reasons.reasons.items
    c.requires.0.grounded c.requires.1.0 (λ l slack e. (c.requires.0.are_slacked l.term slack e).is)
    (stuck_contradicts held assignment.tableau.listed (state_of assignment) c.args.b is.solved is.same c.requires.1.1.0 c.requires.1.1.1) c.in_ok-reasons.ensures.reasons
