-- The node has the sides.
use Rattle.term_core.specs.Tables.{shape_of}
use Rattle.clausify.proofs.Equalities.{sides_found}
use Rattle.clausify.proofs.sides.sides_of.Goals as goal

pub returns-then-is_number : goal.returns-then-is_number
returns-then-is_number c =
    sides_found c.args.table.now c.args.id (shape_of c.node-node.result.now) c.as_slice-arguments.result.now c.requires c.node-node.ensures.means c.node-node.ensures.placed c.in-Equal.is c.as_slice-arguments.ensures
    (rw c.if-is_number.true at c.is_number.ensures)
