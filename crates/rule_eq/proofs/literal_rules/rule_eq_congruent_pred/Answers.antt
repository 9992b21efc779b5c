-- That the clause ends in one of the two forms, or in neither.
use Rattle.std.proofs.Common.{inl, inr, sym, eqb-true}
use Rattle.term_core.specs.Tables.{clause_at}
use Rattle.spec_equality.specs.EqualityRules.{IsCongruentPred}
use Rattle.rule_eq.proofs.Bare.{bare, barely}
use Rattle.rule_eq.proofs.literal_rules.rule_eq_congruent_pred.Goals as goal

pub returns-then-ends_in_formulas : goal.returns-then-ends_in_formulas
returns-then-ends_in_formulas c = bare c.args.table.now c.args.premises.now (eqb-true _ _ (sym c.if-not-is_empty.ensures)) (λ ps. IsCongruentPred ps (clause_at c.args.table.now c.args.clause.now)) (inl c.if-ends_in_formulas.ensures)

pub returns-then-ends_in_denied : goal.returns-then-ends_in_denied
returns-then-ends_in_denied c = bare c.args.table.now c.args.premises.now (eqb-true _ _ (sym c.if-not-is_empty.ensures)) (λ ps. IsCongruentPred ps (clause_at c.args.table.now c.args.clause.now)) (inr c.if-ends_in_denied.ensures)

pub returns : goal.returns
returns c = λ h. elim (barely c.args.table.now c.args.premises.now (eqb-true _ _ (sym c.if-not-is_empty.ensures)) (λ ps. IsCongruentPred ps (clause_at c.args.table.now c.args.clause.now)) h) [
  | inl formulas ↦ c.if-ends_in_formulas.ensures formulas
  | inr denied ↦ c.if-ends_in_denied.ensures denied
]
