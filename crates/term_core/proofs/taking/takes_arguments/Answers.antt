-- A symbol takes the sorts of its rank.
use Rattle.std.proofs.Common.{◌≡◌, map, ap, ◌∙◌, subst, sym}
use Rattle.spec_sorts.specs.Terms.{sort_of, same_sorts}
use Rattle.term_core.specs.Symbols.{SymbolsView, sorts_meant, symbol_at}
use Rattle.term_core.specs.Tables.{clause_at, head_meant, takes}
use Rattle.term_core.proofs.taking.takes_arguments.Goals as goal

pub returns-in-Apply : goal.returns-in-Apply
returns-in-Apply c =
    let t = c.args.table.now in
    let ss = map sort_of (clause_at t c.args.ids.now) in
    let meant = subst (λ (v : SymbolsView). sorts_meant v.sorts c.parameters.result.now ≡ (symbol_at v.symbols c.in-Apply.symbol).parameters) c.symbols.ensures c.parameters.ensures.means in
    c.have_sorts.ensures ∙ ap (λ ps. same_sorts ps ss) meant ∙ ap (λ h. takes (head_meant t h) ss) (sym c.in-Apply.is)
