-- The number of a word, or none.
use Rattle.model_read.proofs.ElementWords.{word_numbered, word_unnumbered}
use Rattle.model_read.proofs.elements.element_number.Goals as goal

pub returns-in-Some : goal.returns-in-Some
returns-in-Some c = word_numbered c.args.word.now c.in-Some.digits.now c.number_of.result c.in-Some.ensures c.number_of.ensures

pub returns-in-None : goal.returns-in-None
returns-in-None c = word_unnumbered c.args.word.now c.in-None.ensures
