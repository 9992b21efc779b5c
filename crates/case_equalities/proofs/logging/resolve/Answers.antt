-- A chain of resolutions gives the clause, so its step is one of the batch; or none is found.
use Rattle.std.proofs.Common.{[], ◌∷◌, ◌∙◌, refl, ap, sym, subst}
use Rattle.spec_proofs.specs.declared.Rule.TheVariants.{Resolution}
use Rattle.spec_derivations.specs.Derivations.{FollowsFrom}
use Rattle.rule_bool.specs.Arguments.{fractions_of}
use Rattle.term_core.specs.Tables.{AreIn}
use Rattle.proof_log.specs.Logs.{Logged, AreStepsOf, AreFormulasIn, inference_of, derivation_in}
use Rattle.proof_log.specs.Adding.{IsAdded}
use Rattle.case_equalities.proofs.Batches.{formulas_made, steps_there, comes_told, missed_told, same_step, resolution_follows, resolution_goes}
use Rattle.case_equalities.proofs.logging.resolve.Goals as goal

pub is_exact-requires-clause-there : goal.is_exact-requires-clause-there
is_exact-requires-clause-there g c = subst (AreStepsOf c.args.log.now) (sym c.deref.ensures.value) (steps_there g.batch c.args.log.now c.args.steps.items c.requires.1.1)

pub is_exact-requires-clause-clause : goal.is_exact-requires-clause-clause
is_exact-requires-clause-clause g c = subst (AreIn c.args.table.now) (sym (c.deref-2.ensures.value ∙ c.in_ok-clause.ensures.items)) (λ k d lt. (c.requires.1.0 k d lt).0.0)

pub returns-then-not-branch-clause-missed : goal.returns-then-not-branch-clause-missed
returns-then-not-branch-clause-missed g c =
    let t = c.args.table.now in
    let clause = c.args.one ∷ c.args.other ∷ [] in
    (refl, missed_told t c.args.log.now c.deref.result.now c.args.steps.items c.deref-2.result.now clause c.in_ok-is_exact.field-0 c.in_ok-is_exact.ensures c.deref.ensures.value (c.deref-2.ensures.value ∙ c.in_ok-clause.ensures.items) c.if-not-branch.true)

pub add_right-requires-clause-clause : goal.add_right-requires-clause-clause
add_right-requires-clause-clause g c =
    subst (AreFormulasIn c.args.table.now) (sym (c.from-3.ensures ∙ c.in_ok-clause.ensures.items)) (formulas_made g.batch c.args.table.now (c.args.one ∷ c.args.other ∷ []) c.requires.1.0)

pub add_right-requires-clause-follows : goal.add_right-requires-clause-follows
add_right-requires-clause-follows g c =
    let t = c.args.table.now in
    let log = c.args.log.now in
    let ps = c.args.steps.items in
    let clause = c.args.one ∷ c.args.other ∷ [] in
    let terms = c.in_ok-clause.ensures.items in
    let comes = comes_told t log c.deref.result.now ps c.deref-2.result.now clause c.in_ok-is_exact.field-0 c.in_ok-is_exact.ensures c.deref.ensures.value (c.deref-2.ensures.value ∙ terms) c.if-not-branch.false in
    subst (λ (x : Logged). FollowsFrom (derivation_in t log) (inference_of t x))
    (sym (same_step Resolution c.from.result ps c.from.ensures c.from-2.result (c.from-2.ensures ∙ ap fractions_of c.new.ensures.items) c.from-3.result clause (c.from-3.ensures ∙ terms)))
    (resolution_follows g.batch t log ps c.requires.1.1 clause comes)

pub returns-clause-goes : goal.returns-clause-goes
returns-clause-goes g c =
    let t = c.args.table.now in
    let log = c.args.log.now in
    let ps = c.args.steps.items in
    let clause = c.args.one ∷ c.args.other ∷ [] in
    let terms = c.in_ok-clause.ensures.items in
    let comes = comes_told t log c.deref.result.now ps c.deref-2.result.now clause c.in_ok-is_exact.field-0 c.in_ok-is_exact.ensures c.deref.ensures.value (c.deref-2.ensures.value ∙ terms) c.if-not-branch.false in
    let added = subst (λ (x : Logged). IsAdded t log x c.in_ok-id.id c.add_right.new.self)
    (same_step Resolution c.from.result ps c.from.ensures c.from-2.result (c.from-2.ensures ∙ ap fractions_of c.new.ensures.items) c.from-3.result clause (c.from-3.ensures ∙ terms)) c.in_ok-id.ensures in
    (resolution_goes g.batch t log ps c.requires.1.1 clause comes c.requires.0 c.requires.1.0 c.in_ok-id.id c.add_right.new.self added).0

pub returns-clause-put : goal.returns-clause-put
returns-clause-put g c =
    let t = c.args.table.now in
    let log = c.args.log.now in
    let ps = c.args.steps.items in
    let clause = c.args.one ∷ c.args.other ∷ [] in
    let terms = c.in_ok-clause.ensures.items in
    let comes = comes_told t log c.deref.result.now ps c.deref-2.result.now clause c.in_ok-is_exact.field-0 c.in_ok-is_exact.ensures c.deref.ensures.value (c.deref-2.ensures.value ∙ terms) c.if-not-branch.false in
    let added = subst (λ (x : Logged). IsAdded t log x c.in_ok-id.id c.add_right.new.self)
    (same_step Resolution c.from.result ps c.from.ensures c.from-2.result (c.from-2.ensures ∙ ap fractions_of c.new.ensures.items) c.from-3.result clause (c.from-3.ensures ∙ terms)) c.in_ok-id.ensures in
    let goes = resolution_goes g.batch t log ps c.requires.1.1 clause comes c.requires.0 c.requires.1.0 c.in_ok-id.id c.add_right.new.self added in
    (goes.1, goes.2)
