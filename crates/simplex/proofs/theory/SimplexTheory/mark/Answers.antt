-- A mark changes nothing of what it is on.
use Rattle.std.proofs.Common.{rules}
use Rattle.simplex.proofs.Coming.{came_marked}
use Rattle.simplex.proofs.theory.SimplexTheory.mark.Goals as goal

pub returns : goal.returns
returns c = record {
  keeps = record {
    with = search rules;
    came = λ t ts n es came. came_marked t ts n es c.args.self.now c.mark.new.self came c.mark.result c.mark.ensures.atoms c.mark.ensures.assignment c.mark.ensures.bounds c.mark.ensures.marks;
  };
  marks = c.mark.ensures.marks;
}
