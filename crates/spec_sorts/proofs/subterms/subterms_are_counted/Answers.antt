-- Lists that hold no more, or no less, than the subterms tell their number.
use Rattle.spec_sorts.proofs.LeastSubterms.{no_fewer, no_more}
use Rattle.spec_sorts.proofs.subterms.subterms_are_counted.Goals as goal

pub returns-clause-no_fewer : goal.returns-clause-no_fewer
returns-clause-no_fewer c = no_fewer

pub returns-clause-no_more : goal.returns-clause-no_more
returns-clause-no_more c = no_more
