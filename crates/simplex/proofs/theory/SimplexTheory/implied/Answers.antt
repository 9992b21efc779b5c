-- It is as it was, over a table that grew.
use Rattle.std.proofs.Common.{ap, sym, subst}
use Rattle.spec_simplex.specs.Constraints.{HaveForms}
use Rattle.spec_simplex.specs.Points.{IsFeasible}
use Rattle.simplex.specs.Views.{SimplexView}
use Rattle.simplex.specs.Checks.{Suits, KeepsBounds}
use Rattle.simplex.specs.Coming.{CameBy}
use Rattle.simplex.proofs.Hinting.{suits_after, came_after, implies}
use Rattle.simplex.proofs.theory.SimplexTheory.implied.Goals as goal

pub returns : goal.returns
returns c =
    let t = c.args.table.now in
    let u = c.implied.new.table in
    let v = c.args.self.now in
    let same = c.implied.ensures.same in
    let more = c.implied.ensures.derives.table in
    implies _ _ _ _ c.implied.result (record {
      with = subst (λ (w : SimplexView). Suits w u) (sym same) (suits_after t u v more c.requires.with);
      same = ap (λ (w : SimplexView). w.theory) same;
      derives = c.implied.ensures.derives;
      came = λ ts n es came. subst (CameBy u ts n es) (sym same) (came_after t u v more c.requires.with ts n es came);
      agrees = λ ts ls agrees. subst (λ (w : SimplexView). HaveForms ls × IsFeasible ls × KeepsBounds w) (sym same) agrees;
    }) c.implied.ensures.steps
