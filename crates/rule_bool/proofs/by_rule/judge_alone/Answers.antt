-- The rule's own call judges it.
use Rattle.std.proofs.Common.{sym, subst}
use Rattle.spec_proofs.specs.declared.Rule.{Rule}
use Rattle.rule_bool.specs.Schemes.{JudgesRule}
use Rattle.rule_bool.proofs.by_rule.judge_alone.Goals as goal

pub returns-in-Or : goal.returns-in-Or
returns-in-Or c = subst (λ (rule : Rule). JudgesRule c.args.table.now rule c.args.premises.now c.args.clause.now c.rule_or.result) (sym c.in-Or.is) c.rule_or.ensures

pub returns-in-Contraction : goal.returns-in-Contraction
returns-in-Contraction c = subst (λ (rule : Rule). JudgesRule c.args.table.now rule c.args.premises.now c.args.clause.now c.rule_contraction.result) (sym c.in-Contraction.is) c.rule_contraction.ensures

pub returns-in-Reordering : goal.returns-in-Reordering
returns-in-Reordering c = subst (λ (rule : Rule). JudgesRule c.args.table.now rule c.args.premises.now c.args.clause.now c.rule_reordering.result) (sym c.in-Reordering.is) c.rule_reordering.ensures

pub returns-in-Weakening : goal.returns-in-Weakening
returns-in-Weakening c = subst (λ (rule : Rule). JudgesRule c.args.table.now rule c.args.premises.now c.args.clause.now c.rule_weakening.result) (sym c.in-Weakening.is) c.rule_weakening.ensures
