-- The rule's own call judges it.
use Rattle.std.proofs.Common.{sym, subst}
use Rattle.spec_equality.specs.declared.EqualityRule.{EqualityRule}
use Rattle.rule_eq.specs.Judging.{JudgesEquality}
use Rattle.rule_eq.proofs.by_rule.judge_equality.Goals as goal

pub returns-in-EqReflexive : goal.returns-in-EqReflexive
returns-in-EqReflexive c = subst (λ (rule : EqualityRule). JudgesEquality c.args.table.now rule c.args.premises.now c.args.clause.now c.rule_eq_reflexive.result) (sym c.in-EqReflexive.is) c.rule_eq_reflexive.ensures

pub returns-in-EqTransitive : goal.returns-in-EqTransitive
returns-in-EqTransitive c = subst (λ (rule : EqualityRule). JudgesEquality c.args.table.now rule c.args.premises.now c.args.clause.now c.rule_eq_transitive.result) (sym c.in-EqTransitive.is) c.rule_eq_transitive.ensures

pub returns-in-EqCongruent : goal.returns-in-EqCongruent
returns-in-EqCongruent c = subst (λ (rule : EqualityRule). JudgesEquality c.args.table.now rule c.args.premises.now c.args.clause.now c.rule_eq_congruent.result) (sym c.in-EqCongruent.is) c.rule_eq_congruent.ensures

pub returns-in-EqCongruentPred : goal.returns-in-EqCongruentPred
returns-in-EqCongruentPred c = subst (λ (rule : EqualityRule). JudgesEquality c.args.table.now rule c.args.premises.now c.args.clause.now c.rule_eq_congruent_pred.result) (sym c.in-EqCongruentPred.is) c.rule_eq_congruent_pred.ensures

pub returns-in-Refl : goal.returns-in-Refl
returns-in-Refl c = subst (λ (rule : EqualityRule). JudgesEquality c.args.table.now rule c.args.premises.now c.args.clause.now c.rule_refl.result) (sym c.in-Refl.is) c.rule_refl.ensures

pub returns-in-Symm : goal.returns-in-Symm
returns-in-Symm c = subst (λ (rule : EqualityRule). JudgesEquality c.args.table.now rule c.args.premises.now c.args.clause.now c.rule_symm.result) (sym c.in-Symm.is) c.rule_symm.ensures

pub returns-in-Trans : goal.returns-in-Trans
returns-in-Trans c = subst (λ (rule : EqualityRule). JudgesEquality c.args.table.now rule c.args.premises.now c.args.clause.now c.rule_trans.result) (sym c.in-Trans.is) c.rule_trans.ensures

pub returns-in-Cong : goal.returns-in-Cong
returns-in-Cong c = subst (λ (rule : EqualityRule). JudgesEquality c.args.table.now rule c.args.premises.now c.args.clause.now c.rule_cong.result) (sym c.in-Cong.is) c.rule_cong.ensures

pub returns-in-DistinctElim : goal.returns-in-DistinctElim
returns-in-DistinctElim c = subst (λ (rule : EqualityRule). JudgesEquality c.args.table.now rule c.args.premises.now c.args.clause.now c.rule_distinct_elim.result) (sym c.in-DistinctElim.is) c.rule_distinct_elim.ensures

pub returns-in-IteThen : goal.returns-in-IteThen
returns-in-IteThen c = subst (λ (rule : EqualityRule). JudgesEquality c.args.table.now rule c.args.premises.now c.args.clause.now c.rule_x_ite_then.result) (sym c.in-IteThen.is) c.rule_x_ite_then.ensures

pub returns-in-IteElse : goal.returns-in-IteElse
returns-in-IteElse c = subst (λ (rule : EqualityRule). JudgesEquality c.args.table.now rule c.args.premises.now c.args.clause.now c.rule_x_ite_else.result) (sym c.in-IteElse.is) c.rule_x_ite_else.ensures
