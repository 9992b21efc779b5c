-- The name, the clause, the rule, the premises, and the end of the line.
use Rattle.world_io.proofs.Chains.{next, fails, last}
use Rattle.alethe_writer.proofs.Starts.{step_start}
use Rattle.alethe_writer.proofs.lines.write_step.Goals as goal

pub returns-in_err-write_number : goal.returns-in_err-write_number
returns-in_err-write_number g c =
    fails _ (step_start c.args.table.now c.args.log.now c.args.plan.now c.args.step.now c.args.number _) c.in_err-write_number.ensures c.from_residual.ensures.0

pub returns-in_err-write_all : goal.returns-in_err-write_all
returns-in_err-write_all g c =
    let s0 = step_start c.args.table.now c.args.log.now c.args.plan.now c.args.step.now c.args.number _ in
    let s1 = next s0 c.in_ok-write_number.ensures in
    fails _ s1 c.in_err-write_all.ensures c.from_residual-in_err-write_all.ensures.0

pub returns-in_err-write_arguments : goal.returns-in_err-write_arguments
returns-in_err-write_arguments g c =
    let s0 = step_start c.args.table.now c.args.log.now c.args.plan.now c.args.step.now c.args.number _ in
    let s1 = next s0 c.in_ok-write_number.ensures in
    let s2 = next s1 c.in_ok-write_all.ensures in
    fails _ s2 (rw c.as_slice.ensures at c.in_err-write_arguments.ensures) c.from_residual-in_err-write_arguments.ensures.0

pub returns-in_err-write_rule : goal.returns-in_err-write_rule
returns-in_err-write_rule g c =
    let s0 = step_start c.args.table.now c.args.log.now c.args.plan.now c.args.step.now c.args.number _ in
    let s1 = next s0 c.in_ok-write_number.ensures in
    let s2 = next s1 c.in_ok-write_all.ensures in
    let s3 = next s2 (rw c.as_slice.ensures at c.in_ok-write_arguments.ensures) in
    fails _ s3 c.in_err-write_rule.ensures c.from_residual-in_err-write_rule.ensures.0

pub returns-in_err-write_premises : goal.returns-in_err-write_premises
returns-in_err-write_premises g c =
    let s0 = step_start c.args.table.now c.args.log.now c.args.plan.now c.args.step.now c.args.number _ in
    let s1 = next s0 c.in_ok-write_number.ensures in
    let s2 = next s1 c.in_ok-write_all.ensures in
    let s3 = next s2 (rw c.as_slice.ensures at c.in_ok-write_arguments.ensures) in
    let s4 = next s3 c.in_ok-write_rule.ensures in
    fails _ s4 (rw c.as_slice-2.ensures at c.in_err-write_premises.ensures) c.from_residual-in_err-write_premises.ensures.0

pub returns-in_err-write_given : goal.returns-in_err-write_given
returns-in_err-write_given g c =
    let s0 = step_start c.args.table.now c.args.log.now c.args.plan.now c.args.step.now c.args.number _ in
    let s1 = next s0 c.in_ok-write_number.ensures in
    let s2 = next s1 c.in_ok-write_all.ensures in
    let s3 = next s2 (rw c.as_slice.ensures at c.in_ok-write_arguments.ensures) in
    let s4 = next s3 c.in_ok-write_rule.ensures in
    let s5 = next s4 (rw c.as_slice-2.ensures at c.in_ok-write_premises.ensures) in
    fails _ s5 (rw c.as_slice-3.ensures at c.in_err-write_given.ensures) c.from_residual-in_err-write_given.ensures.0

pub returns : goal.returns
returns g c =
    let s0 = step_start c.args.table.now c.args.log.now c.args.plan.now c.args.step.now c.args.number _ in
    let s1 = next s0 c.in_ok-write_number.ensures in
    let s2 = next s1 c.in_ok-write_all.ensures in
    let s3 = next s2 (rw c.as_slice.ensures at c.in_ok-write_arguments.ensures) in
    let s4 = next s3 c.in_ok-write_rule.ensures in
    let s5 = next s4 (rw c.as_slice-2.ensures at c.in_ok-write_premises.ensures) in
    let s6 = next s5 (rw c.as_slice-3.ensures at c.in_ok-write_given.ensures) in
    last _ _ s6 c.write_all-2.ensures
