-- The nodes fit the first sorts and symbols, and mean the same over them.
use Rattle.std.proofs.Common.{sym, ap, ◌∙◌, subst}
use Rattle.term_core.specs.Symbols.{SymbolsView}
use Rattle.term_core.specs.Tables.{TableView, table_of}
use Rattle.term_core.specs.Facts.{TableFits}
use Rattle.term_core.specs.Uses.{UsesDeclared, first_declared}
use Rattle.term_core.proofs.Undeclared.{fewer_terms, fewer_fits}
use Rattle.term_core.proofs.terms.TermTable.undeclare.Goals as goal

pub cut-requires : goal.cut-requires
cut-requires c = (subst (λ (t : TableView). UsesDeclared (first_declared c.args.sorts c.args.symbols t)) (sym c.self.view_is) c.requires).symbols

uses : (c : goal.After-cut) → UsesDeclared (first_declared c.args.sorts c.args.symbols (table_of c.self.inside.symbols c.self.inside.nodes.keys))
uses c = subst (λ (t : TableView). UsesDeclared (first_declared c.args.sorts c.args.symbols t)) (sym c.self.view_is) c.requires

pub invariant_of-self : goal.invariant_of-self
invariant_of-self c =
    let i = c.self.inside in
    subst (λ (d : SymbolsView). TableFits d i.nodes.keys i.facts.items) (sym c.cut.ensures)
    (fewer_fits c.args.sorts c.args.symbols i.symbols i.nodes.keys c.self.invariant.whole (uses c) i.facts.items c.self.invariant)

pub returns : goal.returns
returns c =
    let i = c.self.inside in
    let terms = fewer_terms c.args.sorts c.args.symbols i.symbols i.nodes.keys c.self.invariant.whole (uses c) in
    ap (λ (d : SymbolsView). table_of d i.nodes.keys) c.cut.ensures
    ∙ (λ j. record { sorts = (first_declared c.args.sorts c.args.symbols (table_of i.symbols i.nodes.keys)).sorts; symbols = (first_declared c.args.sorts c.args.symbols (table_of i.symbols i.nodes.keys)).symbols; terms = terms j })
    ∙ ap (first_declared c.args.sorts c.args.symbols) c.self.view_is
