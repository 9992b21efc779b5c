-- Of a conjunction, by its node.
use Rattle.std.proofs.Common.{List, All, subst, sym}
use Rattle.term_core.specs.declared.ids.TermId.{TermId}
use Rattle.term_core.specs.Tables.{shape_of}
use Rattle.case_equalities.specs.Finding.{IsConjunctIn}
use Rattle.case_equalities.proofs.Asserted.{arguments_are}
use Rattle.case_equalities.proofs.conjuncts.conjuncts.Goals as goal

pub returns-in-And : goal.returns-in-And
returns-in-And c ts h =
    let t = c.args.table.now in
    let node = c.node-node.result.now in
    subst (λ (ids : List TermId). All (IsConjunctIn t ts) ids) (sym c.as_slice.ensures)
    (arguments_are t ts c.args.id (shape_of node) c.node-node.ensures.means c.in-And.is c.node-node.ensures.placed.arguments h)
