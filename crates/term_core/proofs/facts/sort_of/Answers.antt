-- The sort of a term is given by its head, and that of `ite` by its second argument.
use Rattle.std.proofs.Common.{◌≡◌, get_or, sym, ap, ◌∙◌, subst, arith}
use Rattle.spec_sorts.specs.Terms.{sort_of}
use Rattle.term_core.specs.declared.ids.TermId.{TermId}
use Rattle.term_core.specs.Symbols.{SymbolsView, sort_meant, symbol_at}
use Rattle.term_core.specs.Tables.{term_at, shape_of}
use Rattle.term_core.proofs.FactsOfNodes.{IsOfNumbers, number_sort, symbol_sort, parameter_sort, truth_sort, ite_fits, ite_sort}
use Rattle.term_core.proofs.facts.sort_of.Goals as goal

abbrev no_number : TermId
no_number = record { 0 = 0 }

pub returns-in-Ite-clause-means : goal.returns-in-Ite-clause-means
returns-in-Ite-clause-means c =
    c.sort.ensures.means ∙ ap (λ ids. sort_of (term_at c.args.table.now (get_or ids 1 no_number))) c.as_slice.ensures
    ∙ ite_sort c.args.table.now c.args.node.now.arguments.items c.args.node.now.head no_number c.in-Ite.is (omega (arith, ite_fits c.args.table.now (shape_of c.args.node.now) c.requires c.in-Ite.is))

pub returns-in-Minus-clause-means : goal.returns-in-Minus-clause-means
returns-in-Minus-clause-means c = number_sort c.args.table.now c.args.node.now.arguments.items c.args.node.now.head (subst IsOfNumbers (sym c.in-Minus.is) tt)

pub returns-in-Plus-clause-means : goal.returns-in-Plus-clause-means
returns-in-Plus-clause-means c = number_sort c.args.table.now c.args.node.now.arguments.items c.args.node.now.head (subst IsOfNumbers (sym c.in-Plus.is) tt)

pub returns-in-Times-clause-means : goal.returns-in-Times-clause-means
returns-in-Times-clause-means c = number_sort c.args.table.now c.args.node.now.arguments.items c.args.node.now.head (subst IsOfNumbers (sym c.in-Times.is) tt)

pub returns-in-Divide-clause-means : goal.returns-in-Divide-clause-means
returns-in-Divide-clause-means c = number_sort c.args.table.now c.args.node.now.arguments.items c.args.node.now.head (subst IsOfNumbers (sym c.in-Divide.is) tt)

pub returns-in-Literal-clause-means : goal.returns-in-Literal-clause-means
returns-in-Literal-clause-means c = number_sort c.args.table.now c.args.node.now.arguments.items c.args.node.now.head (subst IsOfNumbers (sym c.in-Literal.is) tt)

pub returns-in-Apply-clause-means : goal.returns-in-Apply-clause-means
returns-in-Apply-clause-means c =
    subst (λ (v : SymbolsView). sort_meant v.sorts c.result.result ≡ (symbol_at v.symbols c.in-Apply.symbol).result) c.symbols.ensures c.result.ensures.means
    ∙ symbol_sort c.args.table.now c.args.node.now.arguments.items c.args.node.now.head c.in-Apply.symbol c.in-Apply.is

pub returns-in-Parameter-clause-means : goal.returns-in-Parameter-clause-means
returns-in-Parameter-clause-means c = parameter_sort c.args.table.now c.args.node.now.arguments.items c.args.node.now.head c.in-Parameter.field-0 c.in-Parameter.sort c.in-Parameter.is

pub returns-in_default : goal.returns-in_default
returns-in_default c = record {
  means = truth_sort c.args.table.now c.args.node.now.arguments.items c.args.node.now.head c.in_default.not-Ite c.in_default.not-Minus c.in_default.not-Plus c.in_default.not-Times c.in_default.not-Divide c.in_default.not-Literal c.in_default.not-Apply c.in_default.not-Parameter;
  there = tt;
}
