-- That the three clauses are right, and come one after the other.
use Rattle.std.proofs.Common.{◌≡◌, ◌∷◌, [], List, map, true, false, sym, subst}
use Rattle.std.specs.Prelude.{All}
use Rattle.spec_text.specs.Trees.{none}
use Rattle.spec_proofs.specs.declared.Rule.TheVariants as rules
use Rattle.spec_rules.specs.Rules.{IsRight}
use Rattle.congruence_explain.specs.declared.claims.SignedClaim.{SignedClaim}
use Rattle.congruence_explain.specs.Claims.{IsClaimOf, claim_as_term, value_claim}
use Rattle.congruence_explain.specs.Steps.{spoken}
use Rattle.congruence_explain.proofs.Decided.{value_in, value_right, apart_clause, apart_in, apart_right}
use Rattle.congruence_explain.proofs.explaining.tell_apart.Goals as goal

pub put_alone-requires : goal.put_alone-requires
put_alone-requires g c =
    let t = g.start.table in
    let ts = c.args.truths in
    let signed_claim : c.unequality.result ∷ c.value_claimed.result ∷ c.value_claimed-2.result ∷ [] ≡ apart_clause t ts c.requires.1 = (λ i. c.unequality.ensures i ∷ c.value_claimed.ensures i ∷ c.value_claimed-2.ensures i ∷ []) in (
      c.requires.0,
      (
        subst (λ (ss : List SignedClaim). All (λ s. IsClaimOf (spoken g.start) t s.claim) ss) (sym signed_claim) (apart_in t ts c.requires.1 (spoken g.start)),
        subst (λ (ss : List SignedClaim). IsRight rules.EquivPos2 [] none (map (claim_as_term t) ss)) (sym signed_claim) (apart_right t ts c.requires.1),
      ),
    )

pub put_alone-requires-2 : goal.put_alone-requires-2
put_alone-requires-2 g c =
    let t = g.start.table in
    let ts = c.args.truths in
    let signed_claim : c.value_claimed-3.result ∷ [] ≡ value_claim ts.true_term true ∷ [] = (λ i. c.value_claimed-3.ensures i ∷ []) in (
      c.put_alone.ensures.derives,
      (
        subst (λ (ss : List SignedClaim). All (λ s. IsClaimOf (spoken g.start) t s.claim) ss) (sym signed_claim) (value_in t ts c.requires.1 (spoken g.start) true true),
        subst (λ (ss : List SignedClaim). IsRight rules.True [] none (map (claim_as_term t) ss)) (sym signed_claim) (value_right t ts c.requires.1 true),
      ),
    )

pub put_alone-requires-3 : goal.put_alone-requires-3
put_alone-requires-3 g c =
    let t = g.start.table in
    let ts = c.args.truths in
    let signed_claim : c.value_claimed-4.result ∷ [] ≡ value_claim ts.false_term false ∷ [] = (λ i. c.value_claimed-4.ensures i ∷ []) in (
      c.put_alone-2.ensures.derives,
      (
        subst (λ (ss : List SignedClaim). All (λ s. IsClaimOf (spoken g.start) t s.claim) ss) (sym signed_claim) (value_in t ts c.requires.1 (spoken g.start) false false),
        subst (λ (ss : List SignedClaim). IsRight rules.False [] none (map (claim_as_term t) ss)) (sym signed_claim) (value_right t ts c.requires.1 false),
      ),
    )
