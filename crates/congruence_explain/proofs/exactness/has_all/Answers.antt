-- One literal more, or one that is not needed.
use Rattle.std.proofs.Common.{take, get_or, Contains, subst, sym}
use Rattle.std.specs.Prelude.{All}
use Rattle.std.proofs.lemmas.List.{take_more, take_all}
use Rattle.std.proofs.lemmas.List.Elements.{All-nil, All-push, Contains-get_or}
use Rattle.term_core.specs.declared.ids.Lit.{Lit}
use Rattle.congruence_explain.proofs.exactness.has_all.Goals as goal

abbrev none : Lit
none = record { term = record { 0 = 0 }; positive = Rattle.std.proofs.Common.false }

pub literals-init : goal.literals-init
literals-init c = All-nil (λ (m : Lit). Contains c.args.needed.now m)

pub literals-preserved : goal.literals-preserved
literals-preserved c =
    subst (All (λ (m : Lit). Contains c.args.needed.now m)) (sym (take_more c.args.clause.now c.literals.l-index none c.literals-test.true))
    (All-push (λ (m : Lit). Contains c.args.needed.now m) (take c.literals.l-index c.args.clause.now) _ c.literals.invariant c.if-not-contains.ensures)

pub returns-then-not-contains : goal.returns-then-not-contains
returns-then-not-contains c = (get_or c.args.clause.now c.literals.l-index none, Contains-get_or c.args.clause.now c.literals.l-index none c.literals-test.true, c.if-not-contains.ensures)

pub returns : goal.returns
returns c = rw (take_all _ _ c.literals-test.false) at c.literals.invariant
