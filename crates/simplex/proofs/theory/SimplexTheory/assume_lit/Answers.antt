-- The watched terms are the same, and a literal more of them is held.
use Rattle.simplex.proofs.Suiting.{suits_held}
use Rattle.simplex.proofs.Coming.{came_holding}
use Rattle.simplex.proofs.theory.SimplexTheory.assume_lit.Goals as goal

pub returns : goal.returns
returns c = record {
  with = λ t s. suits_held t c.args.self.now c.assume_lit.new.self c.args.lit c.requires.watched c.assume_lit.ensures.holds (c.assume_lit.ensures.with t s.is) s;
  came = λ t ts n es with came. came_holding t ts n es c.args.self.now c.assume_lit.new.self came c.args.lit c.requires.watched with.is.known c.assume_lit.ensures.atoms c.assume_lit.ensures.assignment c.assume_lit.ensures.plain c.assume_lit.ensures.holds;
  holds = c.assume_lit.ensures.holds;
}
