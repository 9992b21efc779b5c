-- That a list that begins with no word writes no number.
use Rattle.smt_sexpr.specs.Items.{trees_meant}
use Rattle.alethe_reader.proofs.CoefficientTexts.{no_word}
use Rattle.alethe_reader.proofs.coefficients.open_list.Goals as goal

pub returns-in-None-clause-number : goal.returns-in-None-clause-number
returns-in-None-clause-number c = no_word (trees_meant c.args.inside) c.in-None.ensures.gives
