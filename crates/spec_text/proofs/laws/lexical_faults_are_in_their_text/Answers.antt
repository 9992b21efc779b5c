-- The lexemes are there.
use Rattle.spec_text.proofs.Offsets.{fault_in_text}
use Rattle.spec_text.proofs.laws.lexical_faults_are_in_their_text.Goals as goal

pub returns : goal.returns
returns c = λ text at n front rest f. fault_in_text text at n front rest f
