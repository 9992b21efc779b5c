-- The first terms are those of the first nodes.
use Rattle.std.proofs.Common.{◌≡◌, [], take, sym, ap, ◌∙◌, subst}
use Rattle.std.proofs.lemmas.List.{take-map}
use Rattle.term_core.specs.Facts.{AreFacts}
use Rattle.term_core.specs.Symbols.{SymbolsView}
use Rattle.term_core.specs.Tables.{shape_of, shapes_of, no_shape, AreBefore, grown}
use Rattle.term_core.specs.NameLists.{AreApart}
use Rattle.term_core.proofs.NamesApart.{AreApart-take}
use Rattle.term_core.proofs.ShapesGrown.{grown-take, AreBefore-take}
use Rattle.term_core.proofs.FactsKept.{facts_take}
use Rattle.term_core.proofs.terms.TermTable.cut.Goals as goal

fewer : (c : goal.After-truncate-2) → shapes_of c.truncate.new.self.keys ≡ take c.args.len (shapes_of c.self.inside.nodes.keys)
fewer c = ap shapes_of c.truncate.ensures.keys ∙ sym (take-map shape_of c.args.len c.self.inside.nodes.keys)

terms : (c : goal.After-truncate-2) → grown c.self.inside.symbols [] (shapes_of c.truncate.new.self.keys) ≡ take c.args.len (grown c.self.inside.symbols [] (shapes_of c.self.inside.nodes.keys))
terms c = ap (grown c.self.inside.symbols []) (fewer c) ∙ grown-take c.self.inside.symbols _ c.args.len

pub invariant_of-self : goal.invariant_of-self
invariant_of-self c =
    let d : SymbolsView = c.self.inside.symbols in
    record {
      whole = record {
        declared = c.self.invariant.whole.declared;
        nodes_apart = subst (AreApart no_shape) (sym (fewer c)) (AreApart-take no_shape _ c.args.len c.self.invariant.whole.nodes_apart);
        before = subst (AreBefore d []) (sym (fewer c)) (AreBefore-take d [] _ c.args.len c.self.invariant.whole.before);
      };
      right = subst (AreFacts d.sorts (grown d [] (shapes_of c.truncate.new.self.keys))) (sym c.truncate-2.ensures.items)
          (subst (λ ts. AreFacts d.sorts ts (take c.args.len c.self.inside.facts.items)) (sym (terms c)) (facts_take d.sorts _ _ c.args.len c.self.invariant.right));
    }

pub returns-clause-terms : goal.returns-clause-terms
returns-clause-terms c = terms c ∙ ap (λ t. take c.args.len t.terms) c.self.view_is
