-- The proof of the check is accepted.
use Rattle.std.proofs.Common.{arith}
use Rattle.smt_top.proofs.ScriptLines.{is_no_fault}
use Rattle.smt_top.proofs.generated.judge_proof.Goals as goal

pub returns : goal.returns
returns c = λ d says mode is.
    is_no_fault c.accepted_proofs_have_no_fault.ensures c.verdict_is_one.ensures c.args.script.now c.args.proof.now d says mode is (omega (arith, c.if-script-gt-ROOMY.false), omega (arith, c.if-proof-gt-ROOMY.false)) c.check.result c.check.ensures.verdict
