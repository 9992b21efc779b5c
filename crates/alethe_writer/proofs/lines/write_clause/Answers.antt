-- The line of an assume, or of a step.
use Rattle.std.proofs.Common.{subst, sym}
use Rattle.term_core.specs.Tables.{AreIn}
use Rattle.proof_log.specs.Logs.{named, logged_at}
use Rattle.world_io.proofs.Sending.{sends_same}
use Rattle.alethe_writer.specs.Printing.{name_by, refer_by}
use Rattle.alethe_writer.proofs.Logging.{entry_there}
use Rattle.alethe_writer.proofs.Wholes.{assume_whole, step_whole}
use Rattle.alethe_writer.proofs.lines.write_clause.Goals as goal

pub write_step-requires : goal.write_step-requires
write_step-requires g c =
    let t = c.args.table.now in
    record { there = subst (λ l. AreIn t (named l)) c.in-Some.ensures (entry_there t c.args.log.now c.args.id.0 c.requires.there c.requires.log) }

pub returns-in-None : goal.returns-in-None
returns-in-None g c =
    let t = c.args.table.now in
    let plan = c.args.plan.now in
    let whole = assume_whole t (name_by t plan) (refer_by t c.args.log.now plan) c.args.number (logged_at c.args.log.now c.args.id) c.in-None.ensures in
    sends_same _ _ c.write_assume.result _ _ (sym whole) (rw c.clause.ensures at c.write_assume.ensures)

pub returns-in-Some : goal.returns-in-Some
returns-in-Some g c =
    let t = c.args.table.now in
    let s = c.in-Some.step.now in
    let plan = c.args.plan.now in
    let whole = step_whole t c.args.log.now (name_by t plan) plan.inferences c.args.number (logged_at c.args.log.now c.args.id) s.rule s.premises s.arguments s.clause c.in-Some.ensures in
    sends_same _ _ c.write_step.result _ _ (sym whole) c.write_step.ensures
