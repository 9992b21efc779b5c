use Rattle.std.proofs.Common.{◌≡◌, length, map, List, sym, ap, ◌∙◌, subst}
use Rattle.std.specs.Prelude.{Ok}
use Rattle.std.proofs.lemmas.List.{length-map}
use Rattle.spec_sorts.specs.Terms.{Apply, of, sort_of, same_sorts}
use Rattle.term_core.specs.declared.sorts.Sort.{Sort as TableSort}
use Rattle.term_core.specs.declared.ids.SymbolId.{SymbolId}
use Rattle.term_core.specs.Symbols.{SymbolsView, symbol_at, sort_meant, sorts_meant}
use Rattle.term_core.specs.Tables.{TableView, declared_in, term_at, clause_at}
use Rattle.term_reader.proofs.Tables.{keeps_same}
use Rattle.term_reader.proofs.Applied.{other_count, other_sorts, those_sorts, other_length, same_length}
use Rattle.term_reader.proofs.symbols.by_symbol.Goals as goal

-- the sorts of a table's symbol, by those of the code
meant : (t : TableView) (d : SymbolsView) (s : SymbolId) (ps : List TableSort) → d ≡ declared_in t → sorts_meant d.sorts ps ≡ (symbol_at d.symbols s).parameters → sorts_meant t.sorts ps ≡ (symbol_at t.symbols s).parameters
meant t d s ps is e = subst (λ (v : SymbolsView). sorts_meant v.sorts ps ≡ (symbol_at v.symbols s).parameters) is e

-- as many as the code has
long : (t : TableView) (s : SymbolId) (ps : List TableSort) → sorts_meant t.sorts ps ≡ (symbol_at t.symbols s).parameters → length (symbol_at t.symbols s).parameters ≡ length ps
long t s ps e = ap length (sym e) ∙ length-map ps (sort_meant t.sorts)

pub returns-then-ids-parameters : goal.returns-then-ids-parameters
returns-then-ids-parameters c =
    let t = c.args.table.now in
    let s = c.args.symbol in
    let ids = c.args.ids.now in
    let ps = c.parameters.result.now in
    let f = symbol_at t.symbols s in
    let is = meant t c.symbols.result.now s ps c.symbols.ensures c.parameters.ensures.means in
    record {
      keeps = keeps_same t;
      ends = rw c.fault_at.ensures (other_count f.parameters c.args.at (clause_at t ids) (of (Apply f) (clause_at t ids))
          (other_length (clause_at t ids) f.parameters (length ids) (length ps) (length-map ids (term_at t)) (long t s ps is) c.if-ids-parameters.true));
    }

pub returns-then-not-have_sorts : goal.returns-then-not-have_sorts
returns-then-not-have_sorts c =
    let t = c.args.table.now in
    let s = c.args.symbol in
    let ids = c.args.ids.now in
    let ps = c.parameters.result.now in
    let qs = c.parameters-2.result.now in
    let f = symbol_at t.symbols s in
    let is = meant t c.symbols.result.now s ps c.symbols.ensures c.parameters.ensures.means in
    let other = meant t c.symbols-2.result.now s qs c.symbols-2.ensures c.parameters-2.ensures.means in
    record {
      keeps = keeps_same t;
      ends = rw c.fault_at-then-not-have_sorts.ensures (other_sorts f.parameters c.args.at (clause_at t ids) (of (Apply f) (clause_at t ids))
          (same_length (clause_at t ids) f.parameters (length ids) (length ps) (length-map ids (term_at t)) (long t s ps is) c.if-ids-parameters.false)
          (ap (λ ss. same_sorts ss (map sort_of (clause_at t ids))) (sym other) ∙ sym c.have_sorts.ensures ∙ c.if-not-have_sorts.true));
    }

pub returns-in-Ok : goal.returns-in-Ok
returns-in-Ok c =
    let t = c.args.table.now in
    let s = c.args.symbol in
    let ids = c.args.ids.now in
    let ps = c.parameters.result.now in
    let qs = c.parameters-2.result.now in
    let f = symbol_at t.symbols s in
    let is = meant t c.symbols.result.now s ps c.symbols.ensures c.parameters.ensures.means in
    let other = meant t c.symbols-2.result.now s qs c.symbols-2.ensures c.parameters-2.ensures.means in
    record {
      keeps = c.in-Ok.ensures.keeps;
      ends = (
        c.in-Ok.ensures.ends.0,
        those_sorts f.parameters c.args.at (clause_at t ids) (of (Apply f) (clause_at t ids))
            (same_length (clause_at t ids) f.parameters (length ids) (length ps) (length-map ids (term_at t)) (long t s ps is) c.if-ids-parameters.false)
            (ap (λ ss. same_sorts ss (map sort_of (clause_at t ids))) (sym other) ∙ sym c.have_sorts.ensures ∙ c.if-not-have_sorts.false)
            ∙ ap (λ u. Ok u) (sym c.in-Ok.ensures.ends.1),
      );
    }
