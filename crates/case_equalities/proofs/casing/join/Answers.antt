-- The clause of the chain is made of the terms, and its step is the only one.
use Rattle.proof_log.specs.Theories.{derived}
use Rattle.case_equalities.specs.Stating.{IsStepOf}
use Rattle.case_equalities.proofs.Batches.{since_start, goes_none, goes_after, goes_wider, steps_none, steps_more, some_is}
use Rattle.case_equalities.proofs.casing.join.Goals as goal

pub chain_clause-requires : goal.chain_clause-requires
chain_clause-requires g c = (c.requires.1.0, (since_start g.batch (derived c.args.table.now c.args.log.now) c.requires.0, c.requires.1.1))

pub log_alone-requires : goal.log_alone-requires
log_alone-requires g c = ((goes_wider g.batch c.args.table.now c.chain_clause.new.table c.args.log.now c.requires.0 c.chain_clause.ensures.wider).derives, c.in_ok-clause.ensures.made)

pub returns-then-is_alone-clause-goes : goal.returns-then-is_alone-clause-goes
returns-then-is_alone-clause-goes g c = goes_none g.batch (derived c.args.table.now c.args.log.now) c.requires.0

pub returns-then-is_alone-clause-put : goal.returns-then-is_alone-clause-put
returns-then-is_alone-clause-put g c = steps_none g.batch c.args.log.now c.new-steps.result.items c.new-steps.ensures.items

pub returns-in_err-clause-clause-goes : goal.returns-in_err-clause-clause-goes
returns-in_err-clause-clause-goes g c = goes_wider g.batch c.args.table.now c.chain_clause.new.table c.args.log.now c.requires.0 c.chain_clause.ensures.wider

pub returns-in_err-step-clause-goes : goal.returns-in_err-step-clause-goes
returns-in_err-step-clause-goes g c =
    let log = c.args.log.now in
    let u = c.chain_clause.new.table in
    goes_after g.batch (derived c.args.table.now log) (derived u log) (derived u c.log_alone.new.log) (goes_wider g.batch c.args.table.now u log c.requires.0 c.chain_clause.ensures.wider) c.log_alone.ensures.goes

pub returns-in_default-clause-goes : goal.returns-in_default-clause-goes
returns-in_default-clause-goes g c =
    let log = c.args.log.now in
    let u = c.chain_clause.new.table in
    goes_after g.batch (derived c.args.table.now log) (derived u log) (derived u c.log_alone.new.log) (goes_wider g.batch c.args.table.now u log c.requires.0 c.chain_clause.ensures.wider) c.log_alone.ensures.goes

pub returns-in_err-push-clause-goes : goal.returns-in_err-push-clause-goes
returns-in_err-push-clause-goes g c =
    let log = c.args.log.now in
    let u = c.chain_clause.new.table in
    goes_after g.batch (derived c.args.table.now log) (derived u log) (derived u c.log_alone.new.log) (goes_wider g.batch c.args.table.now u log c.requires.0 c.chain_clause.ensures.wider) c.log_alone.ensures.goes

pub returns-clause-goes : goal.returns-clause-goes
returns-clause-goes g c =
    let log = c.args.log.now in
    let u = c.chain_clause.new.table in
    goes_after g.batch (derived c.args.table.now log) (derived u log) (derived u c.log_alone.new.log) (goes_wider g.batch c.args.table.now u log c.requires.0 c.chain_clause.ensures.wider) c.log_alone.ensures.goes

pub returns-clause-put : goal.returns-clause-put
returns-clause-put g c =
    let log = c.log_alone.new.log in
    steps_more g.batch log c.new-steps.result.items c.push.new.self.items c.in-Some.step c.in_ok-push.ensures.items (steps_none g.batch log c.new-steps.result.items c.new-steps.ensures.items)
    (some_is (IsStepOf g.batch log) _ c.in-Some.step c.in-Some.is c.in_ok-step.ensures.put)
