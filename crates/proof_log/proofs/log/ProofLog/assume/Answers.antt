-- What is assumed is last, and the log stays right.
use Rattle.std.proofs.Common.{arith}
use Rattle.proof_log.proofs.Added.{assumed_or_not}
use Rattle.proof_log.proofs.log.ProofLog.assume.Goals as goal

pub put-requires : goal.put-requires
put-requires c = record { there = λ k d lt. absurd (omega (arith, lt)) }

pub returns : goal.returns
returns c = assumed_or_not c.args.self.now c.args.t c.put.result _ c.put.ensures
