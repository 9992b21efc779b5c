-- Lemmas after lemmas.
use Rattle.std.proofs.Common.{Vec, Global}
use Rattle.proof_log.specs.declared.premises.StepId.{StepId}
use Rattle.proof_log.specs.Theories.{derived}
use Rattle.case_equalities.specs.Stating.{IsStepOf, AreStepsIn, StatesBoth}
use Rattle.case_equalities.proofs.Batches.{since_start, made_kept, both_made, goes_wider, some_is, found_weaker}
use Rattle.case_equalities.proofs.casing.state_case.Goals as goal

pub denial-requires : goal.denial-requires
denial-requires g c =
    let t = c.args.table.now in
    made_kept g.batch g.batch.start.table t (since_start g.batch (derived t c.args.log.now) c.requires.0) c.args.chain.now.case c.requires.1.0.case

pub join-requires : goal.join-requires
join-requires g c =
    let t = c.args.table.now in
    let u = c.denial.new.table in
    ((goes_wider g.batch t u c.args.log.now c.requires.0 c.denial.ensures.wider).derives, (c.requires.1.0, made_kept g.batch t u c.denial.ensures.wider c.args.equality c.requires.1.1))

pub take_apart-requires : goal.take_apart-requires
take_apart-requires g c =
    let u = c.denial.new.table in
    let w = c.join.new.table in (
      c.join.ensures.goes.derives,
      (
        some_is (λ (steps : Vec StepId Global). AreStepsIn g.batch c.join.new.log steps.items) _ c.in-Some.joined c.in-Some.is c.in_ok-joined.ensures.put,
        (c.requires.1.0, made_kept g.batch u w c.join.ensures.goes.wider c.in_ok-denied.denied c.in_ok-denied.ensures.means.0),
      ),
    )

pub resolve-requires : goal.resolve-requires
resolve-requires g c =
    let t = c.args.table.now in
    let u = c.denial.new.table in
    let w = c.join.new.table in
    let equality = made_kept g.batch u w c.join.ensures.goes.wider c.args.equality (made_kept g.batch t u c.denial.ensures.wider c.args.equality c.requires.1.1) in
    let denied = made_kept g.batch u w c.join.ensures.goes.wider c.in_ok-denied.denied c.in_ok-denied.ensures.means.0 in (
      c.take_apart.ensures.goes.derives,
      (
        both_made g.batch w c.in_ok-denied.denied c.args.equality denied equality,
        some_is (λ (steps : Vec StepId Global). AreStepsIn g.batch c.take_apart.new.log steps.items) _ c.in-Some-2.steps c.in-Some-2.is c.in_ok-steps.ensures.put,
      ),
    )

pub returns-in_err-denied-clause-goes : goal.returns-in_err-denied-clause-goes
returns-in_err-denied-clause-goes g c = goes_wider g.batch c.args.table.now c.denial.new.table c.args.log.now c.requires.0 c.denial.ensures.wider

pub returns-clause-put : goal.returns-clause-put
returns-clause-put g c = found_weaker (StatesBoth g.batch c.resolve.new.log c.in_ok-denied.denied c.args.equality) (IsStepOf g.batch c.resolve.new.log) (λ id h. h.0) c.resolve.result c.resolve.ensures.put
