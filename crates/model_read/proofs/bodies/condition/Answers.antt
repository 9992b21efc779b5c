-- An equality, a conjunction, or another text.
use Rattle.std.proofs.Common.{List, length, sym, subst}
use Rattle.spec_sorts.specs.Values.{Value}
use Rattle.spec_model_files.specs.declared.ModelKind.TheVariants.{BadShape}
use Rattle.spec_model_files.specs.Faults.{ReadModel}
use Rattle.spec_model_files.specs.Bodies.{condition_read}
use Rattle.smt_sexpr.specs.Items.{trees_meant, tree_meant}
use Rattle.term_core.specs.Symbols.{sorts_meant}
use Rattle.term_walks.specs.Valuations.{values_meant}
use Rattle.model_read.specs.Bodies.{named_sorts}
use Rattle.model_read.specs.Values.{GivesAs}
use Rattle.model_read.proofs.Stopping.{stops_at}
use Rattle.model_read.proofs.BodyTexts.{named_all, condition_texts, condition_none, condition_atom}
use Rattle.model_read.proofs.bodies.condition.Goals as goal

pub returns-in-Atom-clause-reads : goal.returns-in-Atom-clause-reads
returns-in-Atom-clause-reads c g m =
    let t = c.args.table.now.sorts in
    let ps = named_sorts c.args.names.now (sorts_meant t c.args.sorts.now) in
    stops_at (condition_read g ps (tree_meant c.args.text)) c.bad_shape.result c.from.result c.in-Atom.at BadShape c.bad_shape.ensures c.from.ensures
    (condition_atom g ps (length c.args.sorts.now) (named_all t c.args.names.now c.args.sorts.now c.requires.long) c.if-sorts-eq1.false (tree_meant c.args.text) c.in-Atom.at _ _ c.in-Atom.ensures.seen)

pub returns-in-Some-clause-reads : goal.returns-in-Some-clause-reads
returns-in-Some-clause-reads c g m =
    let t = c.args.table.now.sorts in
    let ps = named_sorts c.args.names.now (sorts_meant t c.args.sorts.now) in
    subst (λ (r : ReadModel (List Value)). GivesAs (λ v. values_meant t v.items) c.equalities.result r)
    (sym (condition_texts g ps (length c.args.sorts.now) (named_all t c.args.names.now c.args.sorts.now c.requires.long) c.if-sorts-eq1.false (tree_meant c.args.text) c.in-List.at c.in-List.field-2 (trees_meant c.in-List.inside)
    (trees_meant c.in-Some.texts) c.in-List.ensures.seen c.in-Some.ensures)) (c.equalities.ensures.reads g m)

pub returns-in-None-clause-reads : goal.returns-in-None-clause-reads
returns-in-None-clause-reads c g m =
    let t = c.args.table.now.sorts in
    let ps = named_sorts c.args.names.now (sorts_meant t c.args.sorts.now) in
    stops_at (condition_read g ps (tree_meant c.args.text)) c.bad_shape-in-None.result c.from-in-None.result c.in-List.at BadShape c.bad_shape-in-None.ensures c.from-in-None.ensures
    (condition_none g ps (length c.args.sorts.now) (named_all t c.args.names.now c.args.sorts.now c.requires.long) c.if-sorts-eq1.false (tree_meant c.args.text) c.in-List.at c.in-List.field-2 (trees_meant c.in-List.inside)
    c.in-List.ensures.seen c.in-None.ensures)
