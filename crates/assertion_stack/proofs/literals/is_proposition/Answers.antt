-- Whether a function is a proposition, by its rank.
use Rattle.std.proofs.Common.{◌≡◌, Some, sym, ap, ◌∙◌, subst}
use Rattle.term_core.specs.Symbols.{SymbolsView, sort_meant, sorts_meant, symbol_at, IsSymbol}
use Rattle.term_reader.specs.Scopes.{FunctionMeans}
use Rattle.assertion_stack.proofs.ReadLiterals.{has_rank, symbol_there, declared_rank, defined_rank}
use Rattle.assertion_stack.proofs.literals.is_proposition.Goals as goal

pub parameters-requires : goal.parameters-requires
parameters-requires c =
    let t = c.args.table.now in
    let h = subst (λ f. FunctionMeans t (Some f) (Some c.requires.0)) c.in-Declared.is c.requires.1 in
    subst (λ (v : SymbolsView). IsSymbol v.symbols c.in-Declared.symbol) (sym c.symbols-symbols.ensures) (symbol_there t c.requires.0 c.in-Declared.symbol h)

pub result-requires : goal.result-requires
result-requires c =
    let t = c.args.table.now in
    let h = subst (λ f. FunctionMeans t (Some f) (Some c.requires.0)) c.in-Declared.is c.requires.1 in
    subst (λ (v : SymbolsView). IsSymbol v.symbols c.in-Declared.symbol) (sym c.symbols-symbols.ensures) (symbol_there t c.requires.0 c.in-Declared.symbol h)

pub returns-in-Declared : goal.returns-in-Declared
returns-in-Declared c k h =
    let t = c.args.table.now in
    let id = c.in-Declared.symbol in
    let is_known = subst (λ f. FunctionMeans t (Some f) (Some k)) c.in-Declared.is h in
    let takes = subst (λ (v : SymbolsView). sorts_meant v.sorts c.parameters.result.now ≡ (symbol_at v.symbols id).parameters) c.symbols-symbols.ensures c.parameters.ensures.means in
    let gives = subst (λ (v : SymbolsView). sort_meant v.sorts c.result.result ≡ (symbol_at v.symbols id).result) c.symbols-symbols.ensures c.result.ensures.means in
    c.is_of_proposition.ensures t.sorts ∙ declared_rank t k id c.parameters.result.now c.result.result is_known takes gives

pub returns-in-Defined : goal.returns-in-Defined
returns-in-Defined c k h =
    let t = c.args.table.now in
    let m = c.in-Defined.definition in
    let is_known = subst (λ f. FunctionMeans t (Some f) (Some k)) c.in-Defined.is h in
    c.is_of_proposition-in-Defined.ensures t.sorts ∙ ap (λ ps. has_rank (sorts_meant t.sorts ps) (sort_meant t.sorts m.result)) c.deref.ensures.value ∙ defined_rank t k m is_known
