-- Each fault is given at an offset of the commands, or by the lexemes after them.
use Rattle.spec_checking.proofs.Within.{verdict_in}
use Rattle.spec_checking.proofs.laws.faults_are_in_their_proof.Goals as goal

pub returns : goal.returns
returns c = λ script proof k f. verdict_in c.trees_are_in_their_text.ensures.all c.lexical_faults_are_in_their_text.ensures proof script k f
