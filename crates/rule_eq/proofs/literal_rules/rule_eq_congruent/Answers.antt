-- That the literals make the sides congruent, or do not.
use Rattle.std.proofs.Common.{true, false, sym, eqb-true}
use Rattle.term_core.specs.Tables.{clause_at}
use Rattle.spec_equality.specs.EqualityRules.{IsCongruenceRule}
use Rattle.rule_eq.proofs.Bare.{bare, barely, congruent}
use Rattle.rule_eq.proofs.literal_rules.rule_eq_congruent.Goals as goal

pub returns-in_default : goal.returns-in_default
returns-in_default c =
    let clause = clause_at c.args.table.now c.args.clause.now in
    λ h. c.in_default.ensures (barely c.args.table.now c.args.premises.now (eqb-true _ _ (sym c.if-not-is_empty.ensures)) (λ ps. IsCongruenceRule ps clause) h).0

pub returns-then-are_like : goal.returns-then-are_like
returns-then-are_like c =
    let clause = clause_at c.args.table.now c.args.clause.now in
    bare c.args.table.now c.args.premises.now (eqb-true _ _ (sym c.if-not-is_empty.ensures)) (λ ps. IsCongruenceRule ps clause) (congruent c.args.table.now clause c.in-Some.end c.in-Some.ensures true c.if-are_like.ensures)

pub returns : goal.returns
returns c =
    let clause = clause_at c.args.table.now c.args.clause.now in
    λ h. congruent c.args.table.now clause c.in-Some.end c.in-Some.ensures false c.if-are_like.ensures (barely c.args.table.now c.args.premises.now (eqb-true _ _ (sym c.if-not-is_empty.ensures)) (λ ps. IsCongruenceRule ps clause) h)
