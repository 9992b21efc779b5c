-- One literal more.
use Rattle.std.proofs.Common.{take, List, Contains, ◌⊎◌, ◌↔◌, inl, inr, sym, subst}
use Rattle.std.proofs.lemmas.List.{take_more, take_all}
use Rattle.spec_text.proofs.Members.{none}
use Rattle.term_core.specs.declared.ids.Lit.{Lit}
use Rattle.congruence_explain.proofs.Lefts.{adds_more}
use Rattle.congruence_explain.proofs.chain.add_each.Goals as goal

pub loop-l-init : goal.loop-l-init
loop-l-init c = λ m. (λ i. inl i, λ i. elim i [ inl j ↦ j | inr j ↦ absurd (none m j) ])

pub loop-l-preserved : goal.loop-l-preserved
loop-l-preserved c =
    let d : Lit = record { term = record { 0 = 0 }; positive = Rattle.std.proofs.Common.false } in
    subst (λ (xs : List Lit). (m : Lit) → Contains c.add.new.self m ↔ (Contains c.args.needed.now m ⊎ Contains xs m)) (sym (take_more c.args.clause.now c.loop-l.l-index d c.loop-l-test.true))
    (adds_more c.loop-l.needed c.add.new.self (take c.loop-l.l-index c.args.clause.now) _ c.args.needed.now c.in_ok-add.ensures c.loop-l.invariant)

pub returns : goal.returns
returns c = rw (take_all _ _ c.loop-l-test.false) at c.loop-l.invariant
