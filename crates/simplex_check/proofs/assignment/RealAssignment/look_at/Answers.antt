use Rattle.std.proofs.Common.{sym, ◌∙◌, subst}
use Rattle.tableau.specs.Views.{OnRowOverflow}
use Rattle.spec_tableaux.specs.BoundsOverflows.{CheckOverflows}
use Rattle.simplex_bounds.specs.Held.{ranges_in}
use Rattle.simplex_check.specs.Assignments.{AssignmentView, state_of}
use Rattle.simplex_check.proofs.Runs.{stops_step}
use Rattle.simplex_check.proofs.UpdatingNonbasic.{looks_basic, looks_nonbasic}
use Rattle.simplex_check.proofs.assignment.RealAssignment.look_at.Goals as goal

pub returns-in-Ok-clause-looked : goal.returns-in-Ok-clause-looked
returns-in-Ok-clause-looked c =
    looks_basic (ranges_in c.args.bounds.now.held) c.args.y (state_of c.args.self.now) c.args.suspects.now c.add.new.self (sym c.is_basic.ensures ∙ c.if-is_basic.true) c.add.ensures.kept c.in-Ok.ensures.added

pub returns-in-Ok-update_one-clause-looked : goal.returns-in-Ok-update_one-clause-looked
returns-in-Ok-update_one-clause-looked c =
    looks_nonbasic (ranges_in c.args.bounds.now.held) c.args.y c.args.self.now c.update_one.new.self c.args.suspects.now c.update_one.new.suspects (sym c.is_basic.ensures ∙ c.if-is_basic.false)
    c.update_one.ensures.tableau c.in-Ok-update_one.ensures.nonbasic_updated c.update_one.ensures.others c.in-Ok-update_one.ensures.suspect

pub returns-in-Err-update_one-clause-stops : goal.returns-in-Err-update_one-clause-stops
returns-in-Err-update_one-clause-stops c =
    let ranges = ranges_in c.args.bounds.now.held in
    let same = c.in-Err-update_one.ensures.same in (
      same,
      stops_step ranges c.update_one.new.self c.in-Err-update_one.stop c.stop_of.result
          (subst (λ (b : AssignmentView). OnRowOverflow (CheckOverflows ranges (state_of b)) c.in-Err-update_one.stop) (sym same) c.in-Err-update_one.ensures.wide) c.stop_of.ensures,
    )
