-- That good commands are those without a fault.
use Rattle.spec_checking.proofs.Good.{no_fault, good}
use Rattle.spec_checking.proofs.laws.good_proofs_have_no_fault.Goals as goal

pub returns : goal.returns
returns c = λ limit k end ts. (no_fault limit end k ts, good limit end k ts)
