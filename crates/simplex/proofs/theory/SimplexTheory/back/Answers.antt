-- The watched terms and held literals are some of those that were.
use Rattle.simplex.proofs.Suiting.{suits_back}
use Rattle.simplex.proofs.Coming.{came_back}
use Rattle.simplex.proofs.theory.SimplexTheory.back.Goals as goal

pub returns : goal.returns
returns c = record {
  keeps = record {
    with = λ t s. suits_back t c.args.marks c.args.self.now c.back.new.self c.back.ensures.back (c.back.ensures.with t s.is) s;
    came = λ t ts n es came. came_back t ts n es c.args.self.now c.back.new.self came c.args.marks c.back.ensures.atoms c.back.ensures.assignment c.back.ensures.bounds c.back.ensures.back;
  };
  back = c.back.ensures.back;
}
