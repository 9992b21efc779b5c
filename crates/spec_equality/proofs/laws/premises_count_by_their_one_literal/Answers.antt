-- That only single literals count.
use Rattle.spec_equality.proofs.Alone.{same_steps}
use Rattle.spec_equality.proofs.laws.premises_count_by_their_one_literal.Goals as goal

pub returns : goal.returns
returns c = λ rule premises others clause. same_steps rule premises others clause
