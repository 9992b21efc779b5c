-- The same terms are asked about.
use Rattle.solve_core.proofs.answering.answer_classes.Given as goal

abbrev pub ghost-search_classes : goal.ghost-search_classes
ghost-search_classes g a = g.asked
