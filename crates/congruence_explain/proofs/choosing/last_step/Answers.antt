-- By the literals of the claims.
use Rattle.std.proofs.Common.{List, map, length, sym, ap, ◌∙◌, subst}
use Rattle.term_core.specs.declared.ids.Lit.{Lit}
use Rattle.clause_literals.specs.Literals.{lit_complement, lists}
use Rattle.congruence_explain.specs.Needing.{IsRefuted}
use Rattle.congruence_explain.proofs.Chosen.{chosen_refuted, same_length, chosen}
use Rattle.congruence_explain.proofs.choosing.last_step.Goals as goal

pub needed_of-requires : goal.needed_of-requires
needed_of-requires g c =
    let each = rw c.deref.ensures.value at c.in_ok-premises.ensures in
    subst (λ (ls : List Lit). IsRefuted c.args.table.now (lists c.in_ok-premises.premises.items) (map lit_complement ls)) (sym c.deref-2.ensures.value)
    (chosen_refuted g.start c.args.table.now c.args.log.now c.args.from c.requires.1.0 c.args.clause.now c.requires.1.1.0 c.in_ok-literals.literals.items c.args.terms.now c.requires.1.1.1.1.0 c.in_ok-literals.ensures c.in_ok-steps.steps.items c.in_ok-steps.ensures (lists c.in_ok-premises.premises.items) each c.requires.1.1.1.1.1)

pub kept_of-requires : goal.kept_of-requires
kept_of-requires g c =
    let each = rw c.deref.ensures.value at c.in_ok-premises.ensures in
    ap length c.deref-3.ensures.value
    ∙ same_length g.start c.args.table.now c.args.log.now c.args.from c.requires.1.0 c.args.clause.now c.requires.1.1.0 c.in_ok-literals.literals.items c.args.terms.now c.requires.1.1.1.1.0 c.in_ok-literals.ensures c.in_ok-steps.steps.items c.in_ok-steps.ensures (lists c.in_ok-premises.premises.items) each

pub returns : goal.returns
returns g c =
    let each = rw c.deref.ensures.value at c.in_ok-premises.ensures in
    let comes = rw c.deref-2.ensures.value at c.in_ok-needed.ensures in
    let kept = rw c.deref-3.ensures.value at c.in_ok-kept.ensures in
    chosen g.start c.args.table.now c.args.log.now c.args.from c.requires.1.0 c.args.clause.now c.requires.1.1.0 c.in_ok-literals.literals.items c.args.terms.now c.requires.1.1.1.1.0 c.in_ok-literals.ensures c.in_ok-steps.steps.items c.in_ok-steps.ensures (lists c.in_ok-premises.premises.items) each
    c.ids_are_unique.ensures c.in_ok-needed.needed comes c.in_ok-kept.kept.items kept
