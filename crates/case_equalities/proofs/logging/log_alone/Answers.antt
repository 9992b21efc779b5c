-- A step that was added is one of the batch; or the rule does not take it.
use Rattle.std.proofs.Common.{◌∙◌, [], inl, inr, ap, sym, subst}
use Rattle.spec_derivations.specs.Derivations.{FollowsFrom}
use Rattle.rule_bool.specs.Arguments.{fractions_of}
use Rattle.proof_log.specs.Logs.{Logged, AreFormulasIn, inference_of, derivation_in}
use Rattle.proof_log.specs.Adding.{IsWideFrom}
use Rattle.case_equalities.proofs.Batches.{formulas_made, same_step, goes_same, alone_goes}
use Rattle.case_equalities.proofs.logging.log_alone.Goals as goal

pub add-requires-clause-log : goal.add-requires-clause-log
add-requires-clause-log g c = c.requires.0.right

pub add-requires-clause-clause : goal.add-requires-clause-clause
add-requires-clause-clause g c = subst (AreFormulasIn c.args.table.now) (sym c.from-3.ensures) (formulas_made g.batch c.args.table.now c.args.clause.items c.requires.1)

pub returns-in-Ok-clause-goes : goal.returns-in-Ok-clause-goes
returns-in-Ok-clause-goes g c =
    (alone_goes g.batch c.args.table.now c.args.log.now c.requires.0 c.args.rule c.from.result (c.from.ensures ∙ c.new.ensures.items) c.from-2.result c.from-3.result c.args.clause.items c.from-3.ensures c.requires.1
    c.in-Ok.id c.add.new.self c.in-Ok.ensures).0

pub returns-in-Ok-clause-put : goal.returns-in-Ok-clause-put
returns-in-Ok-clause-put g c =
    (alone_goes g.batch c.args.table.now c.args.log.now c.requires.0 c.args.rule c.from.result (c.from.ensures ∙ c.new.ensures.items) c.from-2.result c.from-3.result c.args.clause.items c.from-3.ensures c.requires.1
    c.in-Ok.id c.add.new.self c.in-Ok.ensures).1

pub returns-in-Err-Memory-clause-goes : goal.returns-in-Err-Memory-clause-goes
returns-in-Err-Memory-clause-goes g c = goes_same g.batch c.args.table.now c.args.log.now c.add.new.self c.requires.0 c.in-Err-Memory.ensures.1

pub returns-in-Err-RuleFails-clause-goes : goal.returns-in-Err-RuleFails-clause-goes
returns-in-Err-RuleFails-clause-goes g c = goes_same g.batch c.args.table.now c.args.log.now c.add.new.self c.requires.0 c.in-Err-RuleFails.ensures.1

pub returns-in-Err-Wide-clause-goes : goal.returns-in-Err-Wide-clause-goes
returns-in-Err-Wide-clause-goes g c = goes_same g.batch c.args.table.now c.args.log.now c.add.new.self c.requires.0 c.in-Err-Wide.ensures.1

pub returns-in-Err-RuleFails-clause-missed : goal.returns-in-Err-RuleFails-clause-missed
returns-in-Err-RuleFails-clause-missed g c =
    let t = c.args.table.now in
    let log = c.args.log.now in
    let same = same_step c.args.rule c.from.result [] (c.from.ensures ∙ c.new.ensures.items) c.from-2.result (c.from-2.ensures ∙ ap fractions_of c.new-2.ensures.items) c.from-3.result c.args.clause.items c.from-3.ensures in
    let told = rw c.in-Err-RuleFails.field-0-is at c.in-Err-RuleFails.ensures.0 in
    (c.in-Err-RuleFails.ensures.1, inl (subst (λ (x : Logged). FollowsFrom (derivation_in t log) (inference_of t x) → ⊥) same told.0))

pub returns-in-Err-Wide-clause-missed : goal.returns-in-Err-Wide-clause-missed
returns-in-Err-Wide-clause-missed g c =
    let t = c.args.table.now in
    let log = c.args.log.now in
    let same = same_step c.args.rule c.from.result [] (c.from.ensures ∙ c.new.ensures.items) c.from-2.result (c.from-2.ensures ∙ ap fractions_of c.new-2.ensures.items) c.from-3.result c.args.clause.items c.from-3.ensures in
    let told = rw c.in-Err-Wide.field-0-is at c.in-Err-Wide.ensures.0 in
    (c.in-Err-Wide.ensures.1, inr (subst (λ (x : Logged). IsWideFrom (derivation_in t log) (inference_of t x)) same told))
