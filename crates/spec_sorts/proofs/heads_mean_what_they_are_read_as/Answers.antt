-- That the tables of the theories agree.
use Rattle.spec_sorts.proofs.Heads.{head_means}
use Rattle.spec_sorts.proofs.heads_mean_what_they_are_read_as.Goals as goal

pub returns : goal.returns
returns c = head_means
