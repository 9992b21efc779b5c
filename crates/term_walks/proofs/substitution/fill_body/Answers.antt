-- Without an order nothing came.
use Rattle.std.proofs.Common.{refl}
use Rattle.term_core.proofs.TermsExtend.{Extends-self}
use Rattle.term_walks.proofs.substitution.fill_body.Goals as goal

pub returns-in_err-order-clause-kept : goal.returns-in_err-order-clause-kept
returns-in_err-order-clause-kept c = (Extends-self _, refl)
