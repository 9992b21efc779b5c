-- A step that follows is added.
use Rattle.proof_log.specs.Logs.{stepped}
use Rattle.proof_log.proofs.Logged.{numbers_back}
use Rattle.proof_log.proofs.Added.{added}
use Rattle.proof_log.proofs.log.ProofLog.add.Goals as goal

pub put-requires : goal.put-requires
put-requires c = record { there = numbers_back c.args.table.now c.args.self.now c.args.step.premises c.in_ok-follows.ensures.0 }

pub returns : goal.returns
returns c =
    let s = c.args.step in
    added c.args.table.now c.args.self.now (stepped s.rule s.premises s.arguments s.clause) _ _ c.requires.log c.requires.clause c.in_ok-follows.ensures c.in_ok-id.ensures.0 c.in_ok-id.ensures.1
