-- The verdict from what is current at the check.
use Rattle.spec_commands.specs.Checks.{term_limit}
use Rattle.assertion_stack.specs.Stacks.{over_table}
use Rattle.alethe_check.proofs.Answering.{accepted, fault_inside, fault_told}
use Rattle.alethe_check.proofs.judge_texts.Goals as goal

pub judge_at-requires : goal.judge_at-requires
judge_at-requires c = let l = rw c.in-Ok-Some.field-0-is at c.in-Ok-Some.ensures in (term_limit, l.check, l.represents, l.assumed)

pub refused-requires : goal.refused-requires
refused-requires c =
    let l = rw c.in-Ok-Some.field-0-is at c.in-Ok-Some.ensures in
    let j = rw c.in-Err-Fault.field-0-is at c.in-Err-Fault.ensures in
    fault_inside c.args.script.now c.args.at c.args.proof.now (over_table c.in-Ok-Some.stated.table c.in-Ok-Some.stated.stack) c.in-Ok-Some.stated.assumed l c.faults_are_in_their_proof.ensures c.in-Err-Fault.found (j term_limit l.check l.represents l.assumed)

pub returns-in-Ok : goal.returns-in-Ok
returns-in-Ok c =
    let l = rw c.in-Ok-Some.field-0-is at c.in-Ok-Some.ensures in
    accepted c.args.script.now c.args.at c.args.proof.now (over_table c.in-Ok-Some.stated.table c.in-Ok-Some.stated.stack) c.in-Ok-Some.stated.assumed l tt (c.in-Ok.ensures term_limit l.check l.represents l.assumed)

pub returns-in-Err-Fault : goal.returns-in-Err-Fault
returns-in-Err-Fault c =
    let l = rw c.in-Ok-Some.field-0-is at c.in-Ok-Some.ensures in
    let j = rw c.in-Err-Fault.field-0-is at c.in-Err-Fault.ensures in
    fault_told c.args.script.now c.args.at c.args.proof.now (over_table c.in-Ok-Some.stated.table c.in-Ok-Some.stated.stack) c.in-Ok-Some.stated.assumed l c.in-Err-Fault.found c.refused.result (j term_limit l.check l.represents l.assumed) c.refused.ensures
