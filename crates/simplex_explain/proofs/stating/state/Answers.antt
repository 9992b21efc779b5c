-- The step follows, since the weights are read as they are printed.
use Rattle.std.proofs.Common.{List, sym, subst}
use Rattle.spec_numbers.specs.Fractions.{Fraction}
use Rattle.spec_proofs.specs.declared.Rule.TheVariants.{LaGeneric}
use Rattle.spec_derivations.specs.Derivations.{FollowsFrom}
use Rattle.rule_bool.specs.Arguments.{fractions_of}
use Rattle.term_core.specs.declared.ids.TermId.{TermId}
use Rattle.proof_log.specs.declared.premises.StepId.{StepId}
use Rattle.proof_log.specs.Logs.{stepped, inference_of, derivation_in}
use Rattle.simplex_explain.proofs.Judged.{step_follows}
use Rattle.simplex_explain.proofs.stating.state.Goals as goal

pub add_right-requires-clause-follows : goal.add_right-requires-clause-follows
add_right-requires-clause-follows c =
    let t = c.args.table.now in
    let d = derivation_in t c.args.log.now in
    let follows = step_follows t c.args.log.now c.args.weights.items c.args.clause.items c.ratios_are_fractions.ensures.reduced c.ratios_are_fractions.ensures.bounded c.requires.taken in
    let by_premises = subst (λ (ps : List StepId). FollowsFrom d (inference_of t (stepped LaGeneric ps (fractions_of c.args.weights.items) c.args.clause.items))) (sym (c.from.ensures)) (subst (λ (ps : List StepId). FollowsFrom d (inference_of t (stepped LaGeneric ps (fractions_of c.args.weights.items) c.args.clause.items))) (sym c.new.ensures.items) follows) in
    let by_arguments = subst (λ (qs : List Fraction). FollowsFrom d (inference_of t (stepped LaGeneric c.from.result qs c.args.clause.items))) (sym c.from-2.ensures) by_premises in
    subst (λ (ids : List TermId). FollowsFrom d (inference_of t (stepped LaGeneric c.from.result c.from-2.result ids))) (sym c.from-3.ensures) by_arguments
