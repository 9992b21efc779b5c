use Rattle.std.proofs.Common.{◌≡◌, ◌+◌, length, refl, ap, sym, ◌∙◌, subst, arith}
use Rattle.tableau.specs.Views.{TableauView}
use Rattle.simplex_bounds.specs.Held.{ranges_in}
use Rattle.simplex_check.specs.Assignments.{AssignmentView, state_of}
use Rattle.spec_tableaux.specs.Runs.{UpdatesBelow}
use Rattle.simplex_check.proofs.Suspecting.{among_later, among_next}
use Rattle.simplex_check.proofs.UpdatingNonbasic.{UpdatingNonbasic, updates_none, updating_begins, updating_next, updating_more, updating_ends}
use Rattle.simplex_check.proofs.assignment.RealAssignment.update_nonbasic.Goals as goal

pub returns-in-Err-clause-stops : goal.returns-in-Err-clause-stops
returns-in-Err-clause-stops c = ((0, updates_none (ranges_in c.args.bounds.now.held) (state_of c.args.self.now) c.values_solve_the_rows.ensures.solves), tt)

pub loop-y-init : goal.loop-y-init
loop-y-init c = record {
  tableau = refl;
  known = c.in-Ok.ensures.known;
  updating_nonbasic = (
    0,
    subst (UpdatingNonbasic (ranges_in c.args.bounds.now.held) (state_of c.args.self.now) (state_of c.args.self.now) 0 c.in-Ok.due) (sym c.new-suspects.ensures)
        (updating_begins c.args.bounds.now.held c.args.kept c.args.self.now.tableau.rows c.args.self.now.values c.in-Ok.due c.values_solve_the_rows.ensures.solves c.requires.kept c.in-Ok.ensures.due),
  );
}

pub loop-y-smaller : goal.loop-y-smaller
loop-y-smaller c = let e = ap length c.in-Some.ensures.0 in omega (arith, e)

pub loop-y-preserved : goal.loop-y-preserved
loop-y-preserved c =
    let i = c.loop-y.invariant in
    record {
      tableau = c.look_at.ensures.tableau ∙ i.tableau;
      known = λ z m. i.known z (among_later c.in-Some.y z c.loop-y.due c.pop.new.self c.in-Some.ensures.0 m);
      updating_nonbasic = (
        c.in-Some.y + 1,
        updating_more (ranges_in c.args.bounds.now.held) (state_of c.args.self.now) (state_of c.loop-y.self) (state_of c.look_at.new.self) i.updating_nonbasic.0 c.in-Some.y c.loop-y.due c.pop.new.self c.loop-y.suspects c.look_at.new.suspects
            i.updating_nonbasic.1 c.in-Some.ensures.0 c.in-Some.ensures.1 (ap (λ (t : TableauView). t.rows) c.look_at.ensures.tableau) c.look_at.ensures.assignment.solves c.in-Ok-look_at.ensures.looked,
      );
    }

pub returns-in-Err-look_at-clause-stops : goal.returns-in-Err-look_at-clause-stops
returns-in-Err-look_at-clause-stops c =
    let ranges = ranges_in c.args.bounds.now.held in
    let i = c.loop-y.invariant in (
      (
        c.in-Some.y,
        subst (λ (b : AssignmentView). UpdatesBelow ranges c.in-Some.y (state_of c.args.self.now) (state_of b)) (sym c.in-Err-look_at.ensures.stops.0)
            (updating_next ranges (state_of c.args.self.now) (state_of c.loop-y.self) i.updating_nonbasic.0 c.in-Some.y c.loop-y.due c.pop.new.self c.loop-y.suspects i.updating_nonbasic.1 c.in-Some.ensures.0 c.in-Some.ensures.1),
      ),
      c.in-Err-look_at.ensures.stops.1,
    )

pub returns-clause-updates_nonbasic : goal.returns-clause-updates_nonbasic
returns-clause-updates_nonbasic c =
    updating_ends (ranges_in c.args.bounds.now.held) (state_of c.args.self.now) (state_of c.loop-y.self) c.loop-y.invariant.updating_nonbasic.0 c.loop-y.due c.loop-y.suspects c.loop-y.invariant.updating_nonbasic.1 c.in_default.ensures

pub look_at-requires : goal.look_at-requires
look_at-requires c =
    let i = c.loop-y.invariant in
    let below = i.known c.in-Some.y (among_next c.in-Some.y c.loop-y.due c.pop.new.self c.in-Some.ensures.0) in
    let same : c.loop-y.self.tableau.variables ≡ c.args.self.now.tableau.variables = ap (λ (t : TableauView). t.variables) i.tableau in
    omega (arith, below, same, c.requires.known)
