-- One row more, or the default, or a fault.
use Rattle.std.proofs.Common.{List, map, ap, ◌∙◌, length}
use Rattle.std.proofs.lemmas.List.{map_push}
use Rattle.std.proofs.lemmas.List.Elements.{All-push}
use Rattle.spec_sorts.specs.Values.{TableRow}
use Rattle.spec_model_files.specs.Bodies.{body_read}
use Rattle.smt_sexpr.specs.Items.{tree_meant}
use Rattle.term_core.specs.Symbols.{sort_meant, sorts_meant}
use Rattle.term_walks.specs.Valuations.{value_meant, row_meant, IsRowNamed}
use Rattle.model_read.specs.Shapes.{row_view}
use Rattle.model_read.specs.Bodies.{named_sorts, with_rows}
use Rattle.model_read.proofs.BodyTexts.{named_all, body_ends, body_stops, body_more, body_row_stops}
use Rattle.model_read.proofs.bodies.body.Goals as goal

pub returns-in-Ok-clause-reads : goal.returns-in-Ok-clause-reads
returns-in-Ok-clause-reads c g m =
    let t = c.args.table.now.sorts in
    let ps = named_sorts c.args.names.now (sorts_meant t c.args.sorts.now) in
    body_ends g (sort_meant t c.args.gives) ps (tree_meant c.rows.inner) (map (row_meant t) c.rows.rows.items) _ (c.rows.invariant.reads g m) (length c.args.sorts.now) (named_all t c.args.names.now c.args.sorts.now c.requires.long)
    (rw c.in_default.is at c.row_at.ensures.shape) (value_meant t c.in-Ok.default) (c.in-Ok.ensures.reads g m)

pub returns-in-Err-clause-reads : goal.returns-in-Err-clause-reads
returns-in-Err-clause-reads c g m =
    let t = c.args.table.now.sorts in
    let ps = named_sorts c.args.names.now (sorts_meant t c.args.sorts.now) in
    body_stops g (sort_meant t c.args.gives) ps (tree_meant c.rows.inner) (map (row_meant t) c.rows.rows.items) _ (c.rows.invariant.reads g m) (length c.args.sorts.now) (named_all t c.args.names.now c.args.sorts.now c.requires.long)
    (rw c.in_default.is at c.row_at.ensures.shape) c.in-Err.error (c.in-Err.ensures.reads g m)

pub rows-preserved : goal.rows-preserved
rows-preserved c =
    let t = c.args.table.now.sorts in
    let ps = named_sorts c.args.names.now (sorts_meant t c.args.sorts.now) in
    record {
      reads = λ g m.
          ap (λ (rs : List TableRow). with_rows rs (body_read g ps (sort_meant t c.args.gives) (tree_meant c.in-Some.parts.others))) (ap (map (row_meant t)) c.in_ok-push-in-Ok-row.ensures.items ∙ map_push (row_meant t) c.rows.rows.items c.in-Ok-row.made)
          ∙ body_more g (sort_meant t c.args.gives) ps (tree_meant c.rows.inner) (map (row_meant t) c.rows.rows.items) _ (c.rows.invariant.reads g m) (length c.args.sorts.now) (named_all t c.args.names.now c.args.sorts.now c.requires.long)
          (c.in-Some.at, row_view c.in-Some.parts) c.in-Some.ensures.shape (row_meant t c.in-Ok-row.made) (c.in-Ok-row.ensures.reads g m);
      named = rw c.in_ok-push-in-Ok-row.ensures.items (All-push (IsRowNamed t) c.rows.rows.items c.in-Ok-row.made c.rows.invariant.named c.in-Ok-row.ensures.named);
    }

pub returns-in-Err-row-clause-reads : goal.returns-in-Err-row-clause-reads
returns-in-Err-row-clause-reads c g m =
    let t = c.args.table.now.sorts in
    let ps = named_sorts c.args.names.now (sorts_meant t c.args.sorts.now) in
    body_row_stops g (sort_meant t c.args.gives) ps (tree_meant c.rows.inner) (map (row_meant t) c.rows.rows.items) _ (c.rows.invariant.reads g m) (length c.args.sorts.now) (named_all t c.args.names.now c.args.sorts.now c.requires.long)
    (c.in-Some.at, row_view c.in-Some.parts) c.in-Some.ensures.shape t c.in-Err-row.error (c.in-Err-row.ensures.reads g m)
