-- That the literals lead from side to side, or do not.
use Rattle.std.proofs.Common.{true, false, sym, eqb-true, ◌∙◌}
use Rattle.std.proofs.lemmas.Bool.{false≢true}
use Rattle.std.proofs.lemmas.Bool.Decides.{Decides-eqb}
use Rattle.term_core.specs.Tables.{clause_at}
use Rattle.spec_equality.specs.EqualityRules.{IsTransitive}
use Rattle.rule_eq.proofs.Bare.{bare, barely, led, not_led}
use Rattle.rule_eq.proofs.literal_rules.rule_eq_transitive.Goals as goal

pub returns-in_default : goal.returns-in_default
returns-in_default c =
    let clause = clause_at c.args.table.now c.args.clause.now in
    λ h. c.in_default.ensures (barely c.args.table.now c.args.premises.now (eqb-true _ _ (sym c.if-not-is_empty.ensures)) (λ ps. IsTransitive ps clause) h).0

pub returns-then-is_empty : goal.returns-then-is_empty
returns-then-is_empty c =
    let clause = clause_at c.args.table.now c.args.clause.now in
    λ h. not_led c.args.table.now clause c.in-Some.end c.in-Some.ensures (eqb-true _ _ (sym c.if-is_empty.ensures)) (barely c.args.table.now c.args.premises.now (eqb-true _ _ (sym c.if-not-is_empty.ensures)) (λ ps. IsTransitive ps clause) h)

pub returns-then-lead : goal.returns-then-lead
returns-then-lead c =
    let clause = clause_at c.args.table.now c.args.clause.now in
    bare c.args.table.now c.args.premises.now (eqb-true _ _ (sym c.if-not-is_empty.ensures)) (λ ps. IsTransitive ps clause)
    (led c.args.table.now clause c.in-Some.end c.in-Some.ensures (λ e. false≢true (c.if-is_empty.ensures ∙ (Decides-eqb _ 0).1 e)) true c.if-lead.ensures)

pub returns : goal.returns
returns c =
    let clause = clause_at c.args.table.now c.args.clause.now in
    λ h. led c.args.table.now clause c.in-Some.end c.in-Some.ensures (λ e. false≢true (c.if-is_empty.ensures ∙ (Decides-eqb _ 0).1 e)) false c.if-lead.ensures
    (barely c.args.table.now c.args.premises.now (eqb-true _ _ (sym c.if-not-is_empty.ensures)) (λ ps. IsTransitive ps clause) h)
