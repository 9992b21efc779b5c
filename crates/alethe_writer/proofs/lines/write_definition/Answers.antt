-- The name, the sort, the head, the arguments, and the end of the line.
use Rattle.world_io.proofs.Chains.{next, fails, last}
use Rattle.term_core.specs.Tables.{shape_of}
use Rattle.alethe_writer.proofs.Starts.{definition_start}
use Rattle.alethe_writer.proofs.lines.write_definition.Goals as goal

pub returns-in_err-write_number : goal.returns-in_err-write_number
returns-in_err-write_number g c =
    fails _ (definition_start c.args.table.now c.args.plan.now c.args.id c.args.number (shape_of c.node-node.result.now) _ _ c.node-node.ensures.means c.sort-sort.ensures.means) c.in_err-write_number.ensures c.from_residual.ensures.0

pub returns-in_err-write_sort : goal.returns-in_err-write_sort
returns-in_err-write_sort g c =
    let s0 = definition_start c.args.table.now c.args.plan.now c.args.id c.args.number (shape_of c.node-node.result.now) _ _ c.node-node.ensures.means c.sort-sort.ensures.means in
    let s1 = next s0 c.in_ok-write_number.ensures in
    fails _ s1 c.in_err-write_sort.ensures c.from_residual-in_err-write_sort.ensures.0

pub returns-in_err-write_head : goal.returns-in_err-write_head
returns-in_err-write_head g c =
    let s0 = definition_start c.args.table.now c.args.plan.now c.args.id c.args.number (shape_of c.node-node.result.now) _ _ c.node-node.ensures.means c.sort-sort.ensures.means in
    let s1 = next s0 c.in_ok-write_number.ensures in
    let s2 = next s1 c.in_ok-write_sort.ensures in
    fails _ s2 c.in_err-write_head.ensures c.from_residual-in_err-write_head.ensures.0

pub returns-in_err-write_arguments : goal.returns-in_err-write_arguments
returns-in_err-write_arguments g c =
    let s0 = definition_start c.args.table.now c.args.plan.now c.args.id c.args.number (shape_of c.node-node.result.now) _ _ c.node-node.ensures.means c.sort-sort.ensures.means in
    let s1 = next s0 c.in_ok-write_number.ensures in
    let s2 = next s1 c.in_ok-write_sort.ensures in
    let s3 = next s2 c.in_ok-write_head.ensures in
    fails _ s3 (rw c.as_slice.ensures at c.in_err-write_arguments.ensures) c.from_residual-in_err-write_arguments.ensures.0

pub returns : goal.returns
returns g c =
    let s0 = definition_start c.args.table.now c.args.plan.now c.args.id c.args.number (shape_of c.node-node.result.now) _ _ c.node-node.ensures.means c.sort-sort.ensures.means in
    let s1 = next s0 c.in_ok-write_number.ensures in
    let s2 = next s1 c.in_ok-write_sort.ensures in
    let s3 = next s2 c.in_ok-write_head.ensures in
    let s4 = next s3 (rw c.as_slice.ensures at c.in_ok-write_arguments.ensures) in
    last _ _ s4 c.write_all.ensures
