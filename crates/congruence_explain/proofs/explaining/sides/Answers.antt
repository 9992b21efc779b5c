-- That there are two arguments.
use Rattle.std.proofs.Common.{List, get_or, sym, subst}
use Rattle.term_core.specs.declared.ids.TermId.{TermId}
use Rattle.term_core.specs.Tables.{shape_of}
use Rattle.congruence_explain.specs.Claims.{no_term_id}
use Rattle.congruence_explain.specs.Basis.{IsEqualityIn}
use Rattle.congruence_explain.proofs.Concluding.{two_sides}
use Rattle.congruence_explain.proofs.explaining.sides.Goals as goal

pub returns : goal.returns
returns c =
    let t = c.args.table.now in
    let two = two_sides t (shape_of c.node.result.now) c.args.e c.requires.0 c.requires.1 c.node.ensures.placed.arguments c.node.ensures.means c.requires.2 in
    subst (λ (ids : List TermId). IsEqualityIn t c.args.e (get_or ids 0 no_term_id) (get_or ids 1 no_term_id)) (sym c.as_slice-arguments.ensures) two.1
