-- The same terms are asked about.
use Rattle.solve_core.proofs.answering.answer.Given as goal

abbrev pub ghost-answer_propositional : goal.ghost-answer_propositional
ghost-answer_propositional g a = g.asked

abbrev pub ghost-speak_of_cases : goal.ghost-speak_of_cases
ghost-speak_of_cases g a = g.asked

abbrev pub ghost-answer_numbers : goal.ghost-answer_numbers
ghost-answer_numbers g a = g.asked

abbrev pub ghost-answer_classes : goal.ghost-answer_classes
ghost-answer_classes g a = g.asked
