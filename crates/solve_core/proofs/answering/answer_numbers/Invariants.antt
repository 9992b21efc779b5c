-- The same terms are asked about.
use Rattle.solve_core.proofs.answering.answer_numbers.Given as goal

abbrev pub ghost-begin_with : goal.ghost-begin_with
ghost-begin_with g a = g.asked
