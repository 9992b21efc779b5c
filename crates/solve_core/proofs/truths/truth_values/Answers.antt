-- That the second keeps the first.
use Rattle.term_core.proofs.TermsExtend.{Extends-self}
use Rattle.solve_core.proofs.truths.truth_values.Goals as goal

pub returns-in_err-new-clause-grown : goal.returns-in_err-new-clause-grown
returns-in_err-new-clause-grown c = Extends-self c.args.table.now
