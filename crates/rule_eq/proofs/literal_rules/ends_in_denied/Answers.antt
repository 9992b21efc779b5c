-- That the terms are congruent, or are not.
use Rattle.term_core.specs.Tables.{clause_at}
use Rattle.rule_eq.proofs.Bare.{denies}
use Rattle.rule_eq.proofs.literal_rules.ends_in_denied.Goals as goal

pub returns : goal.returns
returns c = denies c.args.table.now (clause_at c.args.table.now c.args.clause.now) c.in-Some.end c.in-Some.ensures c.are_like.result c.are_like.ensures
