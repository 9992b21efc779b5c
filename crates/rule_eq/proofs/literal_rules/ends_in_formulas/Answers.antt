-- That the sides are formulas and congruent, or are not.
use Rattle.term_core.specs.Tables.{clause_at}
use Rattle.rule_eq.proofs.Bare.{formulas, not_formulas}
use Rattle.rule_eq.proofs.literal_rules.ends_in_formulas.Goals as goal

pub returns-then-is_formula : goal.returns-then-is_formula
returns-then-is_formula c = formulas c.args.table.now (clause_at c.args.table.now c.args.clause.now) c.in-Some.end c.in-Some.ensures c.if-is_formula.ensures c.are_like.result c.are_like.ensures

pub returns : goal.returns
returns c = not_formulas c.args.table.now (clause_at c.args.table.now c.args.clause.now) c.in-Some.end c.in-Some.ensures c.if-is_formula.ensures
