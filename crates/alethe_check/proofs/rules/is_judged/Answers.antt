-- That several premises are too many.
use Rattle.std.proofs.lemmas.List.{length-map}
use Rattle.spec_rules.specs.Schemes.{kind_of}
use Rattle.term_core.specs.Tables.{clause_at}
use Rattle.alethe_reader.specs.Holding.{clauses_numbered}
use Rattle.alethe_check.proofs.FewPremises.{not_by, not_wide}
use Rattle.alethe_check.proofs.rules.is_judged.Goals as goal

pub returns-in_default : goal.returns-in_default
returns-in_default c texts written = (
  not_by (kind_of c.args.rule) (clauses_numbered c.args.state.now c.args.premises.now) texts (clause_at c.args.state.now.table c.args.clause.now) c.requires.rule (rw length-map c.in_default.ensures),
  not_wide (kind_of c.args.rule) (clauses_numbered c.args.state.now c.args.premises.now) texts (clause_at c.args.state.now.table c.args.clause.now) c.requires.rule (rw length-map c.in_default.ensures),
)
