-- Term by term.
use Rattle.std.proofs.Common.{◌+◌, [], take, sym, ◌∙◌, subst}
use Rattle.std.proofs.lemmas.Bool.{false≢true}
use Rattle.search_loop.specs.Search.{AreAtomsAmong}
use Rattle.search_loop.proofs.SearchChosen.{chosen_none, chosen_more, chosen_skip}
use Rattle.search_loop.proofs.atoms.atoms_of.Goals as goal

pub terms-init : goal.terms-init
terms-init c = subst (AreAtomsAmong c.args.table.now []) (sym c.new-atoms.ensures.items) (chosen_none c.args.table.now)

pub terms-preserved : goal.terms-preserved
terms-preserved c =
    let k = c.terms.id-index in
    subst (AreAtomsAmong c.args.table.now (take (k + 1) c.args.terms.now)) (sym c.in_ok-push.ensures.items)
    (chosen_more c.args.table.now c.args.terms.now c.terms.atoms.items k c.terms-test.true c.terms.invariant (c.is_atom.ensures.0 c.if-not-is_atom.false))

pub terms-preserved-then-not-is_atom : goal.terms-preserved-then-not-is_atom
terms-preserved-then-not-is_atom c = chosen_skip c.args.table.now c.args.terms.now c.terms.atoms.items c.terms.id-index c.terms-test.true c.terms.invariant (λ a. false≢true (sym c.if-not-is_atom.true ∙ c.is_atom.ensures.1 a))
