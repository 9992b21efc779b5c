-- One case more has its step.
use Rattle.proof_log.specs.Theories.{derived}
use Rattle.case_equalities.specs.Stating.{IsStepOf}
use Rattle.case_equalities.proofs.Batches.{since_start, made_kept, goes_none, goes_after, goes_longer, steps_none, steps_later, steps_more, some_is}
use Rattle.case_equalities.proofs.Leading.{chain_at}
use Rattle.case_equalities.proofs.stating.state_cases.Goals as goal

pub cases_of-requires : goal.cases_of-requires
cases_of-requires g c = (since_start g.batch (derived c.args.table.now c.args.log.now) c.requires.0, (c.requires.1.0, c.requires.1.1.0))

pub returns-in_err-clause-clause-goes : goal.returns-in_err-clause-clause-goes
returns-in_err-clause-clause-goes g c = goes_none g.batch (derived c.args.table.now c.args.log.now) c.requires.0

pub log_alone-requires : goal.log_alone-requires
log_alone-requires g c = (c.requires.0, c.in_ok-clause.ensures)

pub chains-init : goal.chains-init
chains-init g c =
    let log = c.log_alone.new.log in
    record {
      goes = c.log_alone.ensures.goes;
      steps = steps_more g.batch log c.new-steps.result.items c.push.new.self.items c.in-Some.first c.in_ok-push.ensures.items (steps_none g.batch log c.new-steps.result.items c.new-steps.ensures.items)
          (some_is (IsStepOf g.batch log) _ c.in-Some.first c.in-Some.is c.in_ok-first.ensures.put);
    }

pub state_case-requires : goal.state_case-requires
state_case-requires g c =
    let h = c.chains.invariant.goes in (
      h.derives,
      (
        chain_at g.batch c.args.chains.now c.requires.1.0 c.chains.chain-index c.chain-item.result c.chains-test.true c.chain-item.is,
        made_kept g.batch c.args.table.now c.chains.table h.wider c.args.equality c.requires.1.1.1,
      ),
    )

pub returns-in_err-step-clause-goes : goal.returns-in_err-step-clause-goes
returns-in_err-step-clause-goes g c =
    goes_after g.batch (derived c.args.table.now c.args.log.now) (derived c.chains.table c.chains.log) (derived c.state_case.new.table c.state_case.new.log) c.chains.invariant.goes c.state_case.ensures.goes

pub chains-preserved : goal.chains-preserved
chains-preserved g c =
    let old = derived c.chains.table c.chains.log in
    let new = derived c.state_case.new.table c.state_case.new.log in
    record {
      goes = goes_after g.batch (derived c.args.table.now c.args.log.now) old new c.chains.invariant.goes c.state_case.ensures.goes;
      steps = steps_more g.batch new.log c.chains.steps.items c.push-in-chains.new.self.items c.in-Some-2.step c.in_ok-push-2.ensures.items
          (steps_later g.batch old.log new.log (goes_longer g.batch old new c.state_case.ensures.goes) c.chains.steps.items c.chains.invariant.steps)
          (some_is (IsStepOf g.batch new.log) _ c.in-Some-2.step c.in-Some-2.is c.in_ok-step.ensures.put);
    }
