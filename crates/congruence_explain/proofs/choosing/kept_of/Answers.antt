-- One claim more.
use Rattle.std.proofs.Common.{◌<◌, length, arith}
use Rattle.std.proofs.lemmas.List.{get_or_default}
use Rattle.congruence_explain.specs.declared.claims.SignedClaim.{SignedClaim}
use Rattle.congruence_explain.specs.Claims.{no_term_id, equality_claim}
use Rattle.congruence_explain.proofs.Chosen.{keeps_none, keeps_same, keeps_more, kept_all}
use Rattle.congruence_explain.proofs.choosing.kept_of.Goals as goal

pub claims-init : goal.claims-init
claims-init c = keeps_none c.args.needed.now c.args.literals.now c.args.clause.now c.new-kept.result.items c.new-kept.ensures.items

pub claims-preserved-then-not-contains : goal.claims-preserved-then-not-contains
claims-preserved-then-not-contains c =
    let any : SignedClaim = equality_claim no_term_id no_term_id in
    let short : c.claims.i < length c.args.literals.now = omega (arith, c.claims-test.true, c.requires) in
    keeps_same c.args.needed.now c.args.literals.now c.args.clause.now c.requires c.claims.i _ any c.claims-test.true c.claims.kept.items c.claims.invariant (get_or_default c.args.literals.now c.claims.i _ _ short) c.if-not-contains.ensures

pub claims-preserved : goal.claims-preserved
claims-preserved c =
    let short : c.claims.i < length c.args.literals.now = omega (arith, c.claims-test.true, c.requires) in
    keeps_more c.args.needed.now c.args.literals.now c.args.clause.now c.requires c.claims.i _ _ c.claims-test.true c.claims.kept.items c.claims.invariant (get_or_default c.args.literals.now c.claims.i _ _ short) (get_or_default c.args.clause.now c.claims.i _ _ c.claims-test.true)
    c.if-not-contains.ensures c.push.new.self.items c.in_ok-push.ensures.items

pub returns : goal.returns
returns c = kept_all c.args.needed.now c.args.literals.now c.args.clause.now c.claims.i (omega (arith, c.claims-test.false)) c.claims.kept.items c.claims.invariant
