use Rattle.simplex_check.proofs.KeptFirst.{keeps_none}
use Rattle.simplex_check.proofs.assignment.RealAssignment.check.Goals as goal

pub check_after-requires-clause-kept : goal.check_after-requires-clause-kept
check_after-requires-clause-kept c = keeps_none c.args.bounds.now.held c.args.self.now.values
