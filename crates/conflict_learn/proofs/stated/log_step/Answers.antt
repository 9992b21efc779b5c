-- The step is one that follows.
use Rattle.std.proofs.Common.{◌∙◌, [], List, ap, sym, subst}
use Rattle.spec_numbers.specs.Fractions.{Fraction}
use Rattle.spec_proofs.specs.declared.Rule.TheVariants.{Resolution}
use Rattle.spec_derivations.specs.Derivations.{FollowsFrom}
use Rattle.rule_bool.specs.Arguments.{fractions_of}
use Rattle.term_core.specs.declared.ids.TermId.{TermId}
use Rattle.proof_log.specs.declared.premises.StepId.{StepId}
use Rattle.proof_log.specs.Logs.{stepped, inference_of, derivation_in}
use Rattle.conflict_learn.proofs.stated.log_step.Goals as goal

pub add_right-requires-clause-follows : goal.add_right-requires-clause-follows
add_right-requires-clause-follows c =
    let t = c.args.table.now in
    let d = derivation_in t c.args.log.now in
    let by_premises = subst (λ (ps : List StepId). FollowsFrom d (inference_of t (stepped Resolution ps [] c.args.clause.items))) (sym c.from.ensures) c.requires.follows in
    let by_arguments = subst (λ (qs : List Fraction). FollowsFrom d (inference_of t (stepped Resolution c.from.result qs c.args.clause.items))) (sym (c.from-2.ensures ∙ ap fractions_of c.new.ensures.items)) by_premises in
    subst (λ (ids : List TermId). FollowsFrom d (inference_of t (stepped Resolution c.from.result c.from-2.result ids))) (sym c.from-3.ensures) by_arguments
