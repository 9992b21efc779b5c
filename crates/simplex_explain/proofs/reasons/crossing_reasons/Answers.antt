-- Bounds that cross contradict the row of a variable that is itself.
use Rattle.std.proofs.Common.{true}
use Rattle.spec_causes.specs.Reasons.{with_basic, unit_entries}
use Rattle.simplex_explain.specs.BoundReasons.{footing}
use Rattle.simplex_explain.proofs.Distances.{crossing_contradicts}
use Rattle.simplex_explain.proofs.Pieces.{LimitLaws}
use Rattle.simplex_explain.proofs.Refuting.{refutes}
use Rattle.simplex_explain.proofs.reasons.crossing_reasons.Goals as goal

pub crossed_reasons-requires-clause-factors : goal.crossed_reasons-requires-clause-factors
crossed_reasons-requires-clause-factors g c = λ id slack e. (c.requires.0.are_slacked id slack e).is.is.factor

pub returns-clause-refutes : goal.returns-clause-refutes
returns-clause-refutes g c =
    let listed = g.of.assignment.tableau.listed in
    let laws : LimitLaws = record { states = c.bounds_have_weights.ensures.states; tilt = c.bounds_have_weights.ensures.tilt } in
    refutes laws g.of.table c.args.atoms.now.owners listed 0 g.of.assignment.tableau.variables (footing c.args.atoms.now c.args.bounds.now) true (with_basic c.args.y (unit_entries c.args.y)) c.in_ok-reasons.reasons.items
    c.requires.0.grounded c.requires.1.0 (λ l slack e. (c.requires.0.are_slacked l.term slack e).is)
    (crossing_contradicts c.args.bounds.now.held listed c.args.y c.requires.1.1) c.in_ok-reasons.ensures.reasons
