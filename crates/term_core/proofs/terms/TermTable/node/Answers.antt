-- A number's term is that of its node.
use Rattle.std.proofs.Common.{◌≡◌, ◌<◌, [], length, sym, subst, arith}
use Rattle.term_core.specs.Tables.{term_at, ShapeFits, shape_of, shapes_of, shape_term, grown}
use Rattle.term_core.proofs.ShapesGrown.{IsAt, terms-length, at-term, at-fits}
use Rattle.term_core.proofs.TermsApart.{node_at}
use Rattle.term_core.proofs.terms.TermTable.node.Goals as goal

within : (c : goal.After-as_slice) → c.args.id.0 < length (grown c.self.inside.symbols [] (shapes_of c.self.inside.nodes.keys))
within c = subst (λ t. c.args.id.0 < length t.terms) (sym c.self.view_is) c.requires

pub bounds-as_slice-id : goal.bounds-as_slice-id
bounds-as_slice-id c = subst (λ l. c.args.id.0 < length l) (sym c.as_slice.ensures.keys) (subst (λ k. c.args.id.0 < k) (terms-length c.self.inside.symbols c.self.inside.nodes.keys) (within c))

pub offset_bounds-as_slice-id : goal.offset_bounds-as_slice-id
offset_bounds-as_slice-id c = omega (arith, bounds-as_slice-id c, c.as_slice.type_inv.1)

-- what the node says is at that number
here : (c : goal.After-index-as_slice-id) → IsAt c.self.inside.symbols (grown c.self.inside.symbols [] (shapes_of c.self.inside.nodes.keys)) (shape_of c.index-as_slice-id.result) c.args.id.0
here c = node_at c.self.inside.symbols c.self.inside.nodes.keys c.self.invariant.whole c.as_slice.result.now c.index-as_slice-id.result c.args.id.0 c.as_slice.ensures.keys
    (subst (λ t. c.args.id.0 < length t.terms) (sym c.self.view_is) c.requires) c.index-as_slice-id.is

pub returns-clause-means : goal.returns-clause-means
returns-clause-means c = subst (λ t. term_at t c.args.id ≡ shape_term t (shape_of c.index-as_slice-id.result)) c.self.view_is (at-term _ _ (shape_of c.index-as_slice-id.result) c.args.id.0 (here c))

pub returns-clause-placed : goal.returns-clause-placed
returns-clause-placed c = subst (λ t. ShapeFits t (shape_of c.index-as_slice-id.result)) c.self.view_is (at-fits _ _ (shape_of c.index-as_slice-id.result) c.args.id.0 (here c))

pub returns-clause-before : goal.returns-clause-before
returns-clause-before c k d lt = omega (arith, (here c).fits.arguments k d lt, (here c).long)
