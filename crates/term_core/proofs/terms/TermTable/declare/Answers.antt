-- A new symbol leaves the terms.
use Rattle.std.proofs.Common.{◌≡◌, [], ◌∷◌, ◌++◌, ap, ◌∙◌, subst, OnOk}
use Rattle.term_core.specs.Symbols.{symbol_named, symbol_of}
use Rattle.term_core.specs.Tables.{TableView, shapes_of, grown}
use Rattle.term_core.proofs.TermsDeclared.{symbol_kept, symbol_terms}
use Rattle.term_core.proofs.terms.TermTable.declare.Goals as goal

pub invariant_of-self : goal.invariant_of-self
invariant_of-self c =
    symbol_kept c.add.result c.self.inside.symbols c.add.new.self (symbol_of c.self.inside.symbols.sorts c.args.name.now c.args.parameters.now c.args.gives) c.self.inside.nodes.keys c.self.inside.facts.items c.add.ensures.added c.add.ensures.same
    (ap (λ (t : TableView). symbol_named t.symbols c.args.name.now) c.self.view_is ∙ c.requires.new) c.self.invariant

pub returns-clause-declared : goal.returns-clause-declared
returns-clause-declared c =
    subst (λ (t : TableView). OnOk c.add.result ((c.add.new.self.symbols ≡ t.symbols ++ symbol_of t.sorts c.args.name.now c.args.parameters.now c.args.gives ∷ []) × (c.add.new.self.sorts ≡ t.sorts) × (grown c.add.new.self [] (shapes_of c.self.inside.nodes.keys) ≡ t.terms))) c.self.view_is
    (symbol_terms c.add.result c.self.inside.symbols c.add.new.self (symbol_of c.self.inside.symbols.sorts c.args.name.now c.args.parameters.now c.args.gives) c.self.inside.nodes.keys c.add.ensures.added c.self.invariant.whole)
