-- A proof is judged apart.
use Rattle.std.proofs.Common.{◌∙◌, sym, ap}
use Rattle.smt_session.specs.Sessions.{execution_meant}
use Rattle.smt_top.proofs.generated.judge.Goals as goal

pub returns-in-Unsat : goal.returns-in-Unsat
returns-in-Unsat c = λ d says mode is. c.judge_proof.ensures d says (ap execution_meant (sym c.in-Unsat.is) ∙ mode) is
