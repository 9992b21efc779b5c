-- A new sort leaves the terms.
use Rattle.std.proofs.Common.{◌≡◌, [], ◌∷◌, ◌++◌, ap, ◌∙◌, subst, OnOk}
use Rattle.spec_text.specs.Bytes.{among}
use Rattle.term_core.specs.Tables.{TableView, shapes_of, grown}
use Rattle.term_core.proofs.TermsDeclared.{sort_kept, sort_terms}
use Rattle.term_core.proofs.terms.TermTable.declare_sort.Goals as goal

pub invariant_of-self : goal.invariant_of-self
invariant_of-self c = sort_kept c.add_sort.result c.self.inside.symbols c.add_sort.new.self c.args.name.now c.self.inside.nodes.keys c.self.inside.facts.items c.add_sort.ensures.added c.add_sort.ensures.same
    (ap (λ (t : TableView). among t.sorts c.args.name.now) c.self.view_is ∙ c.requires) c.self.invariant

pub returns-clause-declared : goal.returns-clause-declared
returns-clause-declared c =
    subst (λ (t : TableView). OnOk c.add_sort.result ((c.add_sort.new.self.sorts ≡ t.sorts ++ c.args.name.now ∷ []) × (c.add_sort.new.self.symbols ≡ t.symbols) × (grown c.add_sort.new.self [] (shapes_of c.self.inside.nodes.keys) ≡ t.terms))) c.self.view_is
    (sort_terms c.add_sort.result c.self.inside.symbols c.add_sort.new.self c.args.name.now c.self.inside.nodes.keys c.add_sort.ensures.added c.self.invariant.whole)
