-- Bounds that cross contradict the row of a variable that is itself.
use Rattle.std.proofs.Common.{true, [], ◌∷◌}
use Rattle.tableau.specs.Numbers.{number_of}
use Rattle.spec_causes.specs.Reasons.{with_basic}
use Rattle.simplex_explain.specs.BoundReasons.{footing}
use Rattle.simplex_explain.proofs.Distances.{unit_contradiction}
use Rattle.simplex_explain.proofs.Telling.{of_held}
use Rattle.simplex_explain.proofs.rows.crossed_reasons.Goals as goal

pub reasons_for-requires-clause-stopped : goal.reasons_for-requires-clause-stopped
reasons_for-requires-clause-stopped c =
    (unit_contradiction c.args.bounds.now.held [] c.args.y (number_of c.one.result) c.one.ensures c.requires.crossed).stopped

pub returns-clause-held : goal.returns-clause-held
returns-clause-held c = of_held (footing c.args.atoms.now c.args.bounds.now) true (with_basic c.args.y (record { variable = c.args.y; coefficient = number_of c.one.result } ∷ [])) c.in_ok-reasons.reasons.items c.in_ok-reasons.ensures.reasons
