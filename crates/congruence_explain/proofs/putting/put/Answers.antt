-- That the step follows over the table that has grown.
use Rattle.std.proofs.Common.{◌≡◌, List, [], ap, sym, ◌∙◌, subst}
use Rattle.std.specs.Prelude.{MatchResult}
use Rattle.spec_numbers.specs.Fractions.{Fraction}
use Rattle.spec_derivations.specs.Derivations.{FollowsFrom}
use Rattle.rule_bool.specs.Arguments.{fractions_of}
use Rattle.term_core.specs.declared.ids.TermId.{TermId}
use Rattle.proof_log.specs.declared.premises.StepId.{StepId}
use Rattle.proof_log.specs.Logs.{Logged, stepped, inference_of, derivation_in}
use Rattle.proof_log.specs.Adding.{IsAdded}
use Rattle.congruence_explain.proofs.Logging.{claims_wide, wider_right, derives_wider, step_follows, put_result}
use Rattle.congruence_explain.proofs.putting.put.Goals as goal

pub terms_of-requires : goal.terms_of-requires
terms_of-requires g c = claims_wide g.start c.args.table.now c.args.table.now c.args.log.now c.requires.0 (Rattle.term_clauses.proofs.Arguments.Widens-self c.args.table.now) c.args.clause.now c.requires.1.0

pub returns-in_err-terms-clause-derives : goal.returns-in_err-terms-clause-derives
returns-in_err-terms-clause-derives g c = derives_wider g.start c.args.table.now c.terms_of.new.table c.args.log.now c.requires.0 c.terms_of.ensures.wider

pub add_right-requires-clause-log : goal.add_right-requires-clause-log
add_right-requires-clause-log g c = wider_right g.start c.args.table.now c.terms_of.new.table c.args.log.now c.requires.0 c.terms_of.ensures.wider

pub add_right-requires-clause-follows : goal.add_right-requires-clause-follows
add_right-requires-clause-follows g c =
    let u = c.terms_of.new.table in
    let d = derivation_in u c.args.log.now in
    let rule = c.args.rule in
    let follows = step_follows g.start c.args.table.now u c.args.log.now c.requires.0 c.terms_of.ensures.wider c.args.clause.now c.requires.1.0 c.in_ok-terms.terms.items c.in_ok-terms.ensures.means.1 rule c.args.premises.items c.requires.1.1.0 in
    let by_premises = subst (λ (ps : List StepId). FollowsFrom d (inference_of u (stepped rule ps [] c.in_ok-terms.terms.items))) (sym c.from.ensures) follows in
    let by_arguments = subst (λ (qs : List Fraction). FollowsFrom d (inference_of u (stepped rule c.from.result qs c.in_ok-terms.terms.items))) (sym (c.from-2.ensures ∙ ap fractions_of c.new.ensures.items)) by_premises in
    subst (λ (ids : List TermId). FollowsFrom d (inference_of u (stepped rule c.from.result c.from-2.result ids))) (sym c.from-3.ensures) by_arguments

pub returns : goal.returns
returns g c =
    let u = c.terms_of.new.table in
    let new = c.add_right.new.self in
    let rule = c.args.rule in
    let log = c.args.log.now in
    let l : stepped rule c.from.result c.from-2.result c.from-3.result ≡ stepped rule c.args.premises.items [] c.in_ok-terms.terms.items =
    (λ i. stepped rule (c.from.ensures i) ((c.from-2.ensures ∙ ap fractions_of c.new.ensures.items) i) (c.from-3.ensures i)) in
    let added = subst (λ (x : Logged). MatchResult c.add_right.result (λ id. IsAdded u log x id new) (λ _. new ≡ log)) l c.add_right.ensures in
    let all = put_result g.start c.args.table.now u log c.requires.0 c.terms_of.ensures.wider c.args.clause.now c.requires.1.0 c.in_ok-terms.terms.items c.in_ok-terms.ensures.means.1 rule c.args.premises.items c.requires.1.1.1.0 c.requires.1.1.0 c.requires.1.1.1.1 new c.add_right.result added in
    record { derives = all.0; put = all.1 }
