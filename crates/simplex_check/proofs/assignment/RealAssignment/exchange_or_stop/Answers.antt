use Rattle.std.proofs.Common.{sym, subst}
use Rattle.tableau.specs.Views.{OnRowOverflow}
use Rattle.simplex_bounds.specs.Held.{ranges_in}
use Rattle.simplex_check.specs.Assignments.{AssignmentView, state_of}
use Rattle.spec_tableaux.specs.BoundsOverflows.{CheckOverflows}
use Rattle.simplex_check.proofs.Runs.{stops_step}
use Rattle.simplex_check.proofs.assignment.RealAssignment.exchange_or_stop.Goals as goal

pub returns-in-Err-clause-stops : goal.returns-in-Err-clause-stops
returns-in-Err-clause-stops c =
    stops_step (ranges_in c.args.bounds.now.held) c.exchange.new.self c.in-Err.stop c.stop_of.result
    (subst (λ (b : AssignmentView). OnRowOverflow (CheckOverflows (ranges_in c.args.bounds.now.held) (state_of b)) c.in-Err.stop) (sym c.in-Err.ensures.same) c.in-Err.ensures.wide) c.stop_of.ensures
