-- That the last clause follows.
use Rattle.std.proofs.Common.{◌≡◌, ◌++◌, ◌∷◌, [], List, map, true, refl, sym, ◌∙◌, ap, subst}
use Rattle.std.specs.Prelude.{All}
use Rattle.std.proofs.lemmas.List.Elements.{All-push, All-cons, All-nil}
use Rattle.spec_text.specs.Trees.{none}
use Rattle.spec_proofs.specs.declared.Rule.TheVariants.{EqTransitive}
use Rattle.spec_rules.specs.Rules.{IsRight}
use Rattle.term_core.specs.Tables.{AreDifferent}
use Rattle.proof_log.specs.Theories.{Derived, derived}
use Rattle.congruence_explain.specs.declared.claims.SignedClaim.{SignedClaim}
use Rattle.congruence_explain.specs.Claims.{IsClaimOf, claim_as_term, equality_claim, unequal, value_claim}
use Rattle.congruence_explain.specs.Steps.{spoken, setting, steps_since}
use Rattle.congruence_explain.proofs.Along.{linked_in}
use Rattle.congruence_explain.proofs.Concluding.{start_derives, start_length, sides_found, denials_in, sides_refuted, both_right, both_put, explained_put, each_other}
use Rattle.congruence_explain.proofs.explaining.explain_sides.Goals as goal

pub collect-requires : goal.collect-requires
collect-requires g c =
    let found = sides_found g.start c.args.table.now c.args.log.now c.requires.0 c.requires.1.0 c.ids_are_unique.ensures c.args.forest.now.now c.args.e c.sides.result.0 c.sides.result.1 c.requires.1.1.1 c.sides.ensures in
    (start_derives g.start c.args.table.now c.args.log.now c.requires.0 c.requires.1.0, (c.requires.1.1.0, found.1))

pub put_alone-requires : goal.put_alone-requires
put_alone-requires g c =
    let t = g.start.table in
    let a = c.sides.result.0 in
    let b = c.sides.result.1 in
    let found = sides_found g.start c.args.table.now c.args.log.now c.requires.0 c.requires.1.0 c.ids_are_unique.ensures c.args.forest.now.now c.args.e a b c.requires.1.1.1 c.sides.ensures in
    let signed_claims : c.unequality.result ∷ c.equality.result ∷ [] ≡ unequal a b ∷ equality_claim a b ∷ [] = (λ i. c.unequality.ensures i ∷ c.equality.ensures i ∷ []) in
    let claim = linked_in t c.args.truths c.args.forest.now.now g.start.facts c.requires.1.1.0 a b found.1 in
    let Are : SignedClaim → Type 0 = λ (s : SignedClaim). IsClaimOf (spoken g.start) t s.claim in (
      c.collect.ensures.derives,
      (
        subst (λ (ss : List SignedClaim). All Are ss) (sym signed_claims) (All-cons Are (unequal a b) (equality_claim a b ∷ []) claim (All-cons Are (equality_claim a b) [] claim (All-nil Are))),
        subst (λ (ss : List SignedClaim). IsRight EqTransitive [] none (map (claim_as_term t) ss)) (sym signed_claims) (both_right t a b),
      ),
    )

pub returns-then-denies-clause-step : goal.returns-then-denies-clause-step
returns-then-denies-clause-step g c =
    let s = setting g.start.table c.args.truths c.args.forest.now.now in
    let a = c.sides.result.0 in
    let b = c.sides.result.1 in
    let found = sides_found g.start c.args.table.now c.args.log.now c.requires.0 c.requires.1.0 c.ids_are_unique.ensures c.args.forest.now.now c.args.e a b c.requires.1.1.1 c.sides.ensures in
    both_put s g.start (derived c.collect.new.table c.collect.new.log) (derived c.put_alone.new.table c.put_alone.new.log) c.args.e a b c.in_ok-stated.stated.items (c.unequality.result ∷ c.equality.result ∷ []) refl found.0 c.in_ok-stated.ensures.collected.held
    (rw c.deref.ensures.value at c.if-denies.ensures) (λ i. c.unequality.ensures i ∷ c.equality.ensures i ∷ []) c.put_alone.result c.put_alone.ensures.put

pub put_needed-requires : goal.put_needed-requires
put_needed-requires g c =
    let t = g.start.table in
    let ts = c.args.truths in
    let v = c.args.forest.now.now in
    let b = c.requires.1.1.0 in
    let e = c.args.e in
    let u = c.collect.new.table in
    let log = c.collect.new.log in
    let stated = c.in_ok-stated.stated.items in
    let collected = c.in_ok-stated.ensures.collected in
    let found = sides_found g.start c.args.table.now c.args.log.now c.requires.0 c.requires.1.0 c.ids_are_unique.ensures v e c.sides.result.0 c.sides.result.1 c.requires.1.1.1 c.sides.ensures in
    let whole : c.deref-2.result.now ≡ stated ++ value_claim e true ∷ [] = c.deref-2.ensures.value ∙ c.in_ok-push.ensures.items ∙ ap (λ x. stated ++ x ∷ []) c.value_claimed.ensures in
    let denials = denials_in t ts v g.start.facts b stated collected.held in
    let claims = subst (λ (ss : List SignedClaim). All (λ s. IsClaimOf (spoken g.start) t s.claim) ss) (sym whole)
    (All-push (λ (s : SignedClaim). IsClaimOf (spoken g.start) t s.claim) stated (value_claim e true) denials (c.requires.1.1.1.atom, c.requires.1.1.1.made)) in
    let from_is = start_length g.start c.args.table.now c.args.log.now c.requires.0 c.requires.1.0 c.len-from.result c.len-from.ensures in
    let differ = subst (λ (d : Derived). AreDifferent d.table.terms) (sym c.requires.0) c.ids_are_unique.ensures in
    let free = rw c.deref.ensures.value at c.if-denies.ensures in (
      c.collect.ensures.derives,
      (
        from_is,
        (claims, sides_refuted (setting t ts v) (spoken g.start) (steps_since g.start (derived u log)) e c.sides.result.0 c.sides.result.1 stated c.deref-2.result.now differ found.0 collected denials free whole),
      ),
    )

pub returns-clause-step : goal.returns-clause-step
returns-clause-step g c =
    let v = c.args.forest.now.now in
    let e = c.args.e in
    let s = setting g.start.table c.args.truths v in
    let stated = c.in_ok-stated.stated.items in
    let whole : c.deref-2.result.now ≡ stated ++ value_claim e true ∷ [] = c.deref-2.ensures.value ∙ c.in_ok-push.ensures.items ∙ ap (λ x. stated ++ x ∷ []) c.value_claimed.ensures in
    explained_put s g.start (derived c.put_needed.new.table c.put_needed.new.log) c.deref-2.result.now (value_claim e true ∷ []) refl
    (each_other s stated c.deref-2.result.now (value_claim e true) whole c.in_ok-stated.ensures.collected.held) c.put_needed.result c.put_needed.ensures.put
