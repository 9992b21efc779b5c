-- The tables of the symbols up to here, and all.
use Rattle.std.proofs.Common.{◌∷◌, [], Bool, List, length, map, get_or, false, ap, ◌∙◌, arith}
use Rattle.std.proofs.lemmas.List.{length-append, length-map, map_push}
use Rattle.std.proofs.lemmas.List.Elements.{All-push}
use Rattle.spec_sorts.specs.Values.{Table}
use Rattle.spec_sorts.specs.Signatures.{known_as}
use Rattle.spec_model_files.specs.Definitions.{declared_symbol, usual_table}
use Rattle.term_core.specs.Symbols.{no_symbol}
use Rattle.term_walks.specs.declared.values.Table.{Table as CodeTable}
use Rattle.term_walks.specs.Valuations.{no_table, table_meant, IsTableNamed}
use Rattle.model_read.proofs.TablesMade.{tables_more, unmarked_more}
use Rattle.model_read.proofs.tables.Tables.new.Goals as goal

pub symbols-preserved : goal.symbols-preserved
symbols-preserved c =
    let t = c.args.table.now in
    let at = c.symbols.at in
    let ts = c.symbols.tables.items in
    let bs = c.symbols.marks.items in
    let made = c.table_without.result in
    let h = c.symbols.invariant in
    let tables_are = c.in_ok-push.ensures.items in
    let marks_are = c.in_ok-push-2.ensures.items in
    record {
      count = omega (arith, ap (λ (xs : List CodeTable). length xs) tables_are, length-append ts (made ∷ []), h.count);
      marked = omega (arith, ap (λ (xs : List Bool). length xs) marks_are, length-append bs (false ∷ []), h.marked);
      named = rw tables_are (All-push (IsTableNamed t.sorts) ts made h.named c.table_without.ensures.named);
      each = λ g m k lt.
          ap (λ (xs : List Table). get_or xs k no_table) (ap (map (table_meant t.sorts)) tables_are ∙ map_push (table_meant t.sorts) ts made)
          ∙ tables_more (λ j. usual_table (declared_symbol (known_as g (get_or t.symbols j no_symbol).name))) at (map (table_meant t.sorts) ts) (table_meant t.sorts made) (length-map ts (table_meant t.sorts) ∙ h.count) (h.each g m)
          (c.table_without.ensures.means g m) k lt;
      unmarked = λ k. ap (λ (xs : List Bool). get_or xs k false) marks_are ∙ unmarked_more bs h.unmarked k;
    }
