-- Each exchange keeps the bounds of nonbasic variables.
use Rattle.simplex_explain.proofs.Holding.{ran_updated}
use Rattle.simplex_explain.proofs.check_laws.checks_keep_nonbasic_bounds.Goals as goal

pub returns : goal.returns
returns c = ran_updated
