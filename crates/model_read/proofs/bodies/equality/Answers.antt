-- An equality, or another text.
use Rattle.std.proofs.Common.{sym, subst}
use Rattle.spec_text.specs.Bytes.{Name}
use Rattle.spec_sorts.specs.Terms.{Sort}
use Rattle.spec_sorts.specs.Values.{Value}
use Rattle.spec_model_files.specs.declared.ModelKind.TheVariants.{BadShape}
use Rattle.spec_model_files.specs.Faults.{ReadModel}
use Rattle.spec_model_files.specs.Bodies.{equality_read}
use Rattle.smt_sexpr.specs.Items.{trees_meant, tree_meant}
use Rattle.term_core.specs.Symbols.{sort_meant}
use Rattle.term_walks.specs.Valuations.{value_meant}
use Rattle.model_read.specs.Shapes.{pair_view}
use Rattle.model_read.specs.Values.{GivesAs}
use Rattle.model_read.proofs.Stopping.{stops_at}
use Rattle.model_read.proofs.BodyTexts.{equality_sided, equality_none, equality_atom}
use Rattle.model_read.proofs.bodies.equality.Goals as goal

pub returns-in-Atom-clause-reads : goal.returns-in-Atom-clause-reads
returns-in-Atom-clause-reads c g m =
    let p : Name × Sort = (c.args.name.now, sort_meant c.args.table.now.sorts c.args.sort) in
    stops_at (equality_read g p (tree_meant c.args.text)) c.bad_shape.result c.from.result c.in-Atom.at BadShape c.bad_shape.ensures c.from.ensures (equality_atom g p (tree_meant c.args.text) c.in-Atom.at _ _ c.in-Atom.ensures.seen)

pub returns-in-Some-clause-reads : goal.returns-in-Some-clause-reads
returns-in-Some-clause-reads c g m =
    let p : Name × Sort = (c.args.name.now, sort_meant c.args.table.now.sorts c.args.sort) in
    subst (λ (r : ReadModel Value). GivesAs (value_meant c.args.table.now.sorts) c.equality_by.result r)
    (sym (equality_sided g p (tree_meant c.args.text) c.in-List.at c.in-List.field-2 (trees_meant c.in-List.inside) c.in-List.ensures.seen (pair_view c.in-Some.sides) c.in-Some.ensures)) (c.equality_by.ensures.reads g m)

pub returns-in-None-clause-reads : goal.returns-in-None-clause-reads
returns-in-None-clause-reads c g m =
    let p : Name × Sort = (c.args.name.now, sort_meant c.args.table.now.sorts c.args.sort) in
    stops_at (equality_read g p (tree_meant c.args.text)) c.bad_shape-in-None.result c.from-in-None.result c.in-List.at BadShape c.bad_shape-in-None.ensures c.from-in-None.ensures
    (equality_none g p (tree_meant c.args.text) c.in-List.at c.in-List.field-2 (trees_meant c.in-List.inside) c.in-List.ensures.seen c.in-None.ensures)
