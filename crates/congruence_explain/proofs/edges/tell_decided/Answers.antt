-- That both clauses are right, and come one after the other.
use Rattle.proof_log.specs.Theories.{derived}
use Rattle.std.proofs.Common.{◌≡◌, ◌++◌, ◌∷◌, [], List, map, sym, ◌∙◌, ap, subst}
use Rattle.std.specs.Prelude.{All, not}
use Rattle.spec_text.specs.Trees.{none}
use Rattle.spec_sorts.specs.Literals.{Literal}
use Rattle.spec_rules.specs.Rules.{IsRight}
use Rattle.congruence_relation.specs.Relation.{truth_of}
use Rattle.congruence_explain.specs.declared.claims.SignedClaim.{SignedClaim}
use Rattle.congruence_explain.specs.Claims.{IsClaimOf, claim_as_term, claim_as_literal, equality_claim, value_claim}
use Rattle.congruence_explain.specs.Steps.{spoken, steps_since}
use Rattle.congruence_explain.proofs.Decided.{value_in, value_right, decided_clause, decided_in, decided_right, two_more}
use Rattle.congruence_explain.proofs.edges.tell_decided.Goals as goal

pub put_alone-requires : goal.put_alone-requires
put_alone-requires g c =
    let t = g.start.table in
    let ts = c.args.truths in
    let p = c.args.l.positive in
    let signed_claim : c.value_claimed.result ∷ [] ≡ value_claim (truth_of ts p) p ∷ [] = (λ i. (c.value_claimed.ensures ∙ ap (λ v. value_claim v p) c.truth-value.ensures) i ∷ []) in (
      c.requires.0,
      (
        subst (λ (ss : List SignedClaim). All (λ s. IsClaimOf (spoken g.start) t s.claim) ss) (sym signed_claim) (value_in t ts c.requires.1.truths (spoken g.start) p p),
        subst (λ (ss : List SignedClaim). IsRight c.rule_of_value.result [] none (map (claim_as_term t) ss)) (sym signed_claim)
            (subst (λ r. IsRight r [] none (map (claim_as_term t) (value_claim (truth_of ts p) p ∷ []))) (sym c.rule_of_value.ensures) (value_right t ts c.requires.1.truths p)),
      ),
    )

pub put_alone-requires-2 : goal.put_alone-requires-2
put_alone-requires-2 g c =
    let t = g.start.table in
    let ts = c.args.truths in
    let l = c.args.l in
    let signed_claim : c.equality.result ∷ c.denial.result ∷ c.value_claimed-2.result ∷ [] ≡ decided_clause t ts c.requires.1.truths l =
    (λ i. (c.equality.ensures ∙ ap (equality_claim l.term) c.truth-value.ensures) i ∷ c.denial.ensures i ∷ (c.value_claimed-2.ensures ∙ ap (λ v. value_claim v (not l.positive)) c.truth-value.ensures) i ∷ []) in (
      c.put_alone.ensures.derives,
      (
        subst (λ (ss : List SignedClaim). All (λ s. IsClaimOf (spoken g.start) t s.claim) ss) (sym signed_claim) (decided_in t ts c.requires.1.truths (spoken g.start) l c.requires.1.atom c.requires.1.made),
        subst (λ (ss : List SignedClaim). IsRight c.rule_of_decided.result [] none (map (claim_as_term t) ss)) (sym signed_claim)
            (subst (λ r. IsRight r [] none (map (claim_as_term t) (decided_clause t ts c.requires.1.truths l))) (sym c.rule_of_decided.ensures) (decided_right t ts c.requires.1.truths l c.requires.1.atom)),
      ),
    )

pub returns-clause-steps : goal.returns-clause-steps
returns-clause-steps g c =
    let t = g.start.table in
    let ts = c.args.truths in
    let l = c.args.l in
    let first : map (claim_as_literal t) (c.value_claimed.result ∷ []) ≡ map (claim_as_literal t) (value_claim (truth_of ts l.positive) l.positive ∷ []) =
    (λ i. claim_as_literal t ((c.value_claimed.ensures ∙ ap (λ v. value_claim v l.positive) c.truth-value.ensures) i) ∷ []) in
    let second : map (claim_as_literal t) (c.equality.result ∷ c.denial.result ∷ c.value_claimed-2.result ∷ []) ≡ map (claim_as_literal t) (decided_clause t ts c.requires.1.truths l) =
    (λ i. claim_as_literal t ((c.equality.ensures ∙ ap (equality_claim l.term) c.truth-value.ensures) i) ∷ claim_as_literal t (c.denial.ensures i) ∷ claim_as_literal t ((c.value_claimed-2.ensures ∙ ap (λ v. value_claim v (not l.positive)) c.truth-value.ensures) i) ∷ []) in
    let old = steps_since g.start (derived c.args.table.now c.args.log.now) in
    let mid = steps_since g.start (derived c.put_alone.new.table c.put_alone.new.log) in
    let new = steps_since g.start (derived c.put_alone-2.new.table c.put_alone-2.new.log) in
    two_more {X = List Literal} old mid new (map (claim_as_literal t) (value_claim (truth_of ts l.positive) l.positive ∷ [])) (map (claim_as_literal t) (decided_clause t ts c.requires.1.truths l))
    (c.in_ok-put_alone.ensures.put.last ∙ ap (λ x. old ++ x ∷ []) first) (c.in_ok-put_alone-2.ensures.put.last ∙ ap (λ x. mid ++ x ∷ []) second)
