-- That the default of the table is the value, and its rows are as they were.
use Rattle.std.proofs.Common.{◌∙◌, ap, sym}
use Rattle.std.specs.Prelude.{slice_set}
use Rattle.std.proofs.lemmas.List.{map-set, get_or-map}
use Rattle.term_walks.specs.Valuations.{no_table, value_meant, table_meant}
use Rattle.search_model.specs.Made.{meant, with_default}
use Rattle.search_model.proofs.rows.set_default.Goals as goal

pub returns-clause-means : goal.returns-clause-means
returns-clause-means c sorts =
    let tables = c.args.tables.now.items in
    let at = c.args.at in
    let old = c.index_mut.result.now in
    let d = value_meant sorts c.args.value in
    map-set (table_meant sorts) tables at (record { rows = old.rows; default = c.args.value })
    ∙ ap (λ x. slice_set (meant sorts tables) at (with_default x d)) (ap (table_meant sorts) c.index_mut.ensures.value ∙ sym (get_or-map (table_meant sorts) tables at old no_table c.requires))
