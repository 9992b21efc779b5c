-- That what comes after the term is as its arguments say.
use Rattle.std.proofs.Common.{List, length, sym, ◌∙◌, subst}
use Rattle.term_core.specs.declared.ids.TermId.{TermId}
use Rattle.term_core.specs.declared.nodes.Head.{Head as NodeHead}
use Rattle.term_core.specs.Tables.{shape_of}
use Rattle.rule_bool.specs.Schemes.{arity, HasPlaces}
use Rattle.rule_bool.proofs.Arities.{places_there, stating_places}
use Rattle.rule_bool.proofs.Given.{not_formulas, gives_by}
use Rattle.rule_bool.proofs.schemes.gives_rest.Goals as goal

pub returns-then-not-are_formulas : goal.returns-then-not-are_formulas
returns-then-not-are_formulas c = not_formulas c.args.table.now c.args.head c.args.rest c.requires.form _ (shape_of c.node-node.result.now) c.node-node.ensures.means c.if-not-has_head.ensures
    (sym (rw c.as_slice-arguments.ensures at c.are_formulas.ensures) ∙ c.if-not-are_formulas.true) _

pub has_rest-requires-clause-places : goal.has_rest-requires-clause-places
has_rest-requires-clause-places c =
    let s = shape_of c.node-node.result.now in
    subst (λ (ids : List TermId). HasPlaces (length ids) c.args.rest) (sym c.as_slice-arguments.ensures)
    (places_there c.args.table.now s c.args.rest c.node-node.ensures.placed
    (subst (λ (h : NodeHead). HasPlaces (arity h) c.args.rest) (sym c.if-not-has_head.ensures) (stating_places c.args.head c.args.rest c.requires.form)))

pub returns : goal.returns
returns c = gives_by c.args.table.now c.args.head c.args.rest c.requires.form _ (shape_of c.node-node.result.now) c.node-node.ensures.means c.if-not-has_head.ensures c.node-node.ensures.placed
    (sym (rw c.as_slice-arguments.ensures at c.are_formulas.ensures) ∙ c.if-not-are_formulas.false) _ c.has_rest.result (rw c.as_slice-arguments.ensures at c.has_rest.ensures)
