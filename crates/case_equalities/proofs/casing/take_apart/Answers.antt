-- One equality more has its step.
use Rattle.std.proofs.Common.{get_or, sym, subst}
use Rattle.proof_log.specs.Theories.{derived}
use Rattle.case_equalities.specs.Stating.{AreMade, IsStepOf}
use Rattle.case_equalities.proofs.Batches.{since_start, made_kept, both_made, goes_none, goes_after, goes_longer, steps_later, steps_more, some_is}
use Rattle.case_equalities.proofs.casing.take_apart.Goals as goal

pub equalities-init : goal.equalities-init
equalities-init g c = record { goes = goes_none g.batch (derived c.args.table.now c.args.log.now) c.requires.0; steps = c.requires.1.0 }

pub log_alone-requires : goal.log_alone-requires
log_alone-requires g c =
    let t = c.args.table.now in
    let start = g.batch.start.table in
    let id = get_or c.deref-id-items.result.now c.equalities.id-index (record { 0 = 0 }) in
    let items = subst (AreMade g.batch start) (sym c.deref-id-items.ensures.value) c.requires.1.1.0.equalities in
    let made = made_kept g.batch start t (since_start g.batch (derived t c.args.log.now) c.requires.0) id (items c.equalities.id-index (record { 0 = 0 }) c.equalities-test.true) in
    (c.equalities.invariant.goes.derives, subst (AreMade g.batch t) (sym c.in_ok-clause.ensures.items) (both_made g.batch t c.args.denied id c.requires.1.1.1 made))

pub returns-in_err-step-clause-goes : goal.returns-in_err-step-clause-goes
returns-in_err-step-clause-goes g c =
    let t = c.args.table.now in
    goes_after g.batch (derived t c.args.log.now) (derived t c.equalities.log) (derived t c.log_alone.new.log) c.equalities.invariant.goes c.log_alone.ensures.goes

pub returns-in_default-clause-goes : goal.returns-in_default-clause-goes
returns-in_default-clause-goes g c =
    let t = c.args.table.now in
    goes_after g.batch (derived t c.args.log.now) (derived t c.equalities.log) (derived t c.log_alone.new.log) c.equalities.invariant.goes c.log_alone.ensures.goes

pub returns-in_err-push-clause-goes : goal.returns-in_err-push-clause-goes
returns-in_err-push-clause-goes g c =
    let t = c.args.table.now in
    goes_after g.batch (derived t c.args.log.now) (derived t c.equalities.log) (derived t c.log_alone.new.log) c.equalities.invariant.goes c.log_alone.ensures.goes

pub equalities-preserved : goal.equalities-preserved
equalities-preserved g c =
    let t = c.args.table.now in
    let old = derived t c.equalities.log in
    let new = derived t c.log_alone.new.log in
    record {
      goes = goes_after g.batch (derived t c.args.log.now) old new c.equalities.invariant.goes c.log_alone.ensures.goes;
      steps = steps_more g.batch new.log c.equalities.steps.items c.push.new.self.items c.in-Some.step c.in_ok-push.ensures.items
          (steps_later g.batch old.log new.log (goes_longer g.batch old new c.log_alone.ensures.goes) c.equalities.steps.items c.equalities.invariant.steps)
          (some_is (IsStepOf g.batch new.log) _ c.in-Some.step c.in-Some.is c.in_ok-step.ensures.put);
    }
