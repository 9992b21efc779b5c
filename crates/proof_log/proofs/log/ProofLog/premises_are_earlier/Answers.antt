-- It is kept so.
use Rattle.std.proofs.Common.{subst}
use Rattle.proof_log.specs.Logs.{AreEarlier}
use Rattle.proof_log.proofs.log.ProofLog.premises_are_earlier.Goals as goal

pub returns : goal.returns
returns c = subst AreEarlier c.self.view_is c.self.invariant.earlier
