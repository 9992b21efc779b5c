-- That the last clause follows.
use Rattle.proof_log.specs.Theories.{derived}
use Rattle.std.proofs.Common.{◌≡◌, [], List, refl, sym, subst}
use Rattle.std.specs.Prelude.{All}
use Rattle.congruence_explain.specs.declared.claims.SignedClaim.{SignedClaim}
use Rattle.congruence_explain.specs.Claims.{IsClaimOf}
use Rattle.congruence_explain.specs.Needing.{HasFalsePremise}
use Rattle.congruence_explain.specs.Steps.{spoken, setting, steps_since, all_denied, IsDenial}
use Rattle.congruence_explain.proofs.Concluding.{start_derives, start_length, denials_in, truths_refuted, explained_put, each_denied}
use Rattle.congruence_explain.proofs.explaining.explain_truths.Goals as goal

pub collect-requires : goal.collect-requires
collect-requires g c = (start_derives g.start c.args.table.now c.args.log.now c.requires.0 c.requires.1.0, (c.requires.1.1.0, c.requires.1.1.1.1))

pub put_needed-requires : goal.put_needed-requires
put_needed-requires g c =
    let t = g.start.table in
    let ts = c.args.truths in
    let v = c.args.forest.now.now in
    let b = c.requires.1.1.0 in
    let u = c.tell_apart.new.table in
    let log = c.tell_apart.new.log in
    let stated = c.in_ok-stated.stated.items in
    let collected = c.in_ok-stated.ensures.collected in
    let whole : c.deref.result.now ≡ stated = c.deref.ensures.value in
    let claims = subst (λ (ss : List SignedClaim). All (λ s. IsClaimOf (spoken g.start) t s.claim) ss) (sym whole) (denials_in t ts v g.start.facts b stated collected.held) in
    let from_is = start_length g.start c.args.table.now c.args.log.now c.requires.0 c.requires.1.0 c.len-from.result c.len-from.ensures in
    let s = setting t ts v in
    let refuted = truths_refuted s (steps_since g.start (derived c.collect.new.table c.collect.new.log)) (steps_since g.start (derived u log)) stated collected c.in_ok-tell_apart.ensures.steps in (
      c.tell_apart.ensures.derives,
      (from_is, (claims, subst (λ (ss : List SignedClaim). HasFalsePremise (steps_since g.start (derived u log)) (all_denied t ss)) (sym whole) refuted)),
    )

pub returns-clause-step : goal.returns-clause-step
returns-clause-step g c =
    let v = c.args.forest.now.now in
    let s = setting g.start.table c.args.truths v in
    let each = each_denied s [] c.deref.result.now (subst (λ (ss : List SignedClaim). All (IsDenial s) ss) (sym c.deref.ensures.value) c.in_ok-stated.ensures.collected.held) in
    explained_put s g.start (derived c.put_needed.new.table c.put_needed.new.log) c.deref.result.now [] refl each c.put_needed.result c.put_needed.ensures.put
