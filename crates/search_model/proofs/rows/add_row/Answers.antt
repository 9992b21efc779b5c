-- That the table has the row last, and its default is as it was.
use Rattle.std.proofs.Common.{◌≡◌, ◌∙◌, ◌∷◌, [], map, ap, sym}
use Rattle.std.specs.Prelude.{slice_set}
use Rattle.std.proofs.lemmas.List.{map-set, map-append, get_or-map}
use Rattle.term_walks.specs.declared.values.Table.{Table as CodeTable}
use Rattle.term_walks.specs.Valuations.{no_table, value_meant, row_meant, table_meant}
use Rattle.search_model.specs.Made.{meant, with_table_row}
use Rattle.search_model.proofs.rows.add_row.Goals as goal

pub returns-clause-means : goal.returns-clause-means
returns-clause-means c sorts =
    let tables = c.args.tables.now.items in
    let at = c.args.at in
    let old = c.index_mut.result.now in
    let r = row_meant sorts c.args.row in
    let new : CodeTable = record { rows = c.push.new.self; default = old.default } in
    let rows = ap (map (row_meant sorts)) c.in_ok-push.ensures.items ∙ map-append (row_meant sorts) old.rows.items (c.args.row ∷ []) in
    let table : table_meant sorts new ≡ with_table_row (table_meant sorts old) r = λ i. record { rows = rows i; default = value_meant sorts old.default } in
    map-set (table_meant sorts) tables at new ∙ ap (slice_set (meant sorts tables) at) table
    ∙ ap (λ x. slice_set (meant sorts tables) at (with_table_row x r)) (ap (table_meant sorts) c.index_mut.ensures.value ∙ sym (get_or-map (table_meant sorts) tables at old no_table c.requires))
