-- A step that is known to follow is added.
use Rattle.proof_log.specs.Logs.{stepped}
use Rattle.proof_log.proofs.Logged.{numbers_back}
use Rattle.proof_log.proofs.Added.{added_or_not}
use Rattle.proof_log.proofs.log.ProofLog.add_right.Goals as goal

pub put-requires : goal.put-requires
put-requires c = record { there = numbers_back c.args.table.now c.args.self.now c.args.step.premises c.requires.follows.0 }

pub returns : goal.returns
returns c =
    let s = c.args.step in
    added_or_not c.args.table.now c.args.self.now (stepped s.rule s.premises s.arguments s.clause) c.put.result _ c.requires.log c.requires.clause c.requires.follows c.put.ensures
