-- The beginnings of the premises are judged as the premises are.
use Rattle.std.proofs.Common.{map, ap, ◌∙◌}
use Rattle.spec_equality.specs.Reasons.{alone}
use Rattle.spec_rules.specs.Schemes.{kind_of}
use Rattle.term_core.specs.Tables.{clause_at}
use Rattle.alethe_reader.specs.Holding.{clauses_numbered}
use Rattle.alethe_check.proofs.OneLiterals.{fronts_alone, judged_alike}
use Rattle.alethe_check.proofs.rules.is_equated.Goals as goal

pub returns : goal.returns
returns c texts written = judged_alike (kind_of c.args.rule) c.requires.rule _ (clauses_numbered c.args.state.now c.args.premises.now) texts (clause_at c.args.state.now.table c.args.clause.now)
    (ap (map alone) c.in_ok-fronts.ensures.same ∙ fronts_alone c.args.state.now c.args.premises.now) c.judge.result (rw c.deref.ensures.value at c.judge.ensures.exact texts written)
