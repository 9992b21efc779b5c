-- One step more.
use Rattle.std.proofs.Common.{[], sym, ◌∙◌}
use Rattle.std.proofs.lemmas.List.{get_or-map, length-map}
use Rattle.rule_bool.proofs.Resolvents.{means_each_more}
use Rattle.proof_log.specs.declared.premises.StepId.{StepId}
use Rattle.proof_log.specs.Logs.{named, logged_at, clauses_in}
use Rattle.congruence_explain.proofs.choosing.clauses_of.Goals as goal

pub steps-preserved : goal.steps-preserved
steps-preserved c = means_each_more _ (clauses_in c.args.log.now c.args.steps.now) c.steps.step-index [] c.clause.result.now _ _ _ (rw length-map c.steps-test.true)
    (c.clause.ensures ∙ sym (get_or-map (λ (s : StepId). named (logged_at c.args.log.now s)) c.args.steps.now c.steps.step-index (record { 0 = 0 }) [] c.steps-test.true)) c.in_ok-push.ensures.items c.in_ok-literals_of.ensures c.steps.invariant
