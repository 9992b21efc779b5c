-- A symbol's sorts are those of its rank.
use Rattle.std.proofs.Common.{◌≡◌, ◌<◌, [], length, get_or, subst, sym, ap, ◌∙◌, arith}
use Rattle.spec_sorts.specs.Terms.{Symbol}
use Rattle.term_core.specs.declared.sorts.Rank.{Rank}
use Rattle.term_core.specs.Symbols.{SymbolsView, sort_meant, HasSortIn, symbol_at, symbol_of, symbols_of, IsRank}
use Rattle.term_core.proofs.SymbolsNamed.{number_within, symbol_by}
use Rattle.term_core.proofs.symbols.Symbols.result.Goals as goal

pub index-requires : goal.index-requires
index-requires c = omega (arith, number_within c.self.inside.sorts c.self.inside.names c.self.inside.ranks.items c.args.self.now c.args.id.0 c.self.invariant.long c.self.view_is c.requires, c.self.invariant.long, c.self.inside.ranks.ok.0)

within : (c : goal.After-result-1) → c.args.id.0 < length c.self.inside.names
within c = number_within c.self.inside.sorts c.self.inside.names c.self.inside.ranks.items c.args.self.now c.args.id.0 c.self.invariant.long c.self.view_is c.requires

-- the symbol of the number has the name of the number, and this rank
here : (c : goal.After-result-1) → symbol_at (symbols_of c.self.inside.sorts c.self.inside.names c.self.inside.ranks.items) c.args.id
    ≡ symbol_of c.self.inside.sorts (get_or c.self.inside.names c.args.id.0 []) c.index.result.now.parameters.items c.index.result.now.result
here c =
    symbol_by c.self.inside.sorts c.self.inside.names c.self.inside.ranks.items c.args.id.0 c.index.result.now c.self.invariant.long (within c)
    ∙ ap (λ (r : Rank). symbol_of c.self.inside.sorts (get_or c.self.inside.names c.args.id.0 []) r.parameters.items r.result) (sym c.index.ensures)

rank : (c : goal.After-result-1) → IsRank c.self.inside.sorts c.index.result.now
rank c = subst (IsRank c.self.inside.sorts) (sym c.index.ensures) (c.self.invariant.each c.args.id.0 c.index.result.now (omega (arith, within c, c.self.invariant.long)))

pub returns-clause-means : goal.returns-clause-means
returns-clause-means c = subst (λ (v : SymbolsView). sort_meant v.sorts c.index.result.now.result ≡ (symbol_at v.symbols c.args.id).result) c.self.view_is (sym (ap (λ (s : Symbol). s.result) (here c)))

pub returns-clause-there : goal.returns-clause-there
returns-clause-there c = subst (λ (v : SymbolsView). HasSortIn v.sorts c.index.result.now.result) c.self.view_is (rank c).result
