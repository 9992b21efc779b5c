-- By what is chosen.
use Rattle.proof_log.specs.Theories.{derived}
use Rattle.std.proofs.Common.{List, map, sym, ap, ◌∙◌, subst}
use Rattle.std.specs.Prelude.{All}
use Rattle.spec_text.specs.Trees.{none}
use Rattle.spec_proofs.specs.declared.Rule.TheVariants.{Resolution}
use Rattle.spec_derivations.specs.Derivations.{by_rule, FollowsFrom}
use Rattle.spec_derivations.specs.Lemmas.{TakesNoMore}
use Rattle.term_core.specs.declared.ids.TermId.{TermId}
use Rattle.term_core.specs.Tables.{IsIn, clause_at}
use Rattle.proof_log.specs.Logs.{numbers_of, derivation_in}
use Rattle.term_clauses.proofs.Arguments.{Widens-self}
use Rattle.congruence_explain.specs.declared.claims.SignedClaim.{SignedClaim}
use Rattle.congruence_explain.specs.Claims.{IsClaimOf, claim_as_term}
use Rattle.congruence_explain.specs.Steps.{spoken, all_denied}
use Rattle.congruence_explain.proofs.Logging.{claims_wide, derives_wider, terms_are}
use Rattle.congruence_explain.proofs.Chosen.{refuted_wider, kept_claims, chosen_follows, chosen_exact, some_put}
use Rattle.congruence_explain.proofs.choosing.put_needed.Goals as goal

pub terms_of-requires : goal.terms_of-requires
terms_of-requires g c = claims_wide g.start c.args.table.now c.args.table.now c.args.log.now c.requires.0 (Widens-self c.args.table.now) c.args.clause.now c.requires.1.1.0

pub returns-in_err-terms-clause-derives : goal.returns-in_err-terms-clause-derives
returns-in_err-terms-clause-derives g c = derives_wider g.start c.args.table.now c.terms_of.new.table c.args.log.now c.requires.0 c.terms_of.ensures.wider

pub returns-in_err-last-clause-derives : goal.returns-in_err-last-clause-derives
returns-in_err-last-clause-derives g c = derives_wider g.start c.args.table.now c.terms_of.new.table c.args.log.now c.requires.0 c.terms_of.ensures.wider

pub last_step-requires : goal.last_step-requires
last_step-requires g c =
    let t = c.args.table.now in
    let u = c.terms_of.new.table in
    let log = c.args.log.now in
    let wider = c.terms_of.ensures.wider in
    let means = c.in_ok-terms.ensures.means in (
      derives_wider g.start t u log c.requires.0 wider,
      (
        c.requires.1.0,
        (
          c.requires.1.1.0,
          (
            subst (λ (ids : List TermId). All (λ (id : TermId). IsIn u id) ids) (sym c.deref.ensures.value) (λ k d lt. (means.0 k d lt).0),
            (
              ap (clause_at u) c.deref.ensures.value ∙ terms_are g.start t u log c.requires.0 wider c.args.clause.now c.requires.1.1.0 c.in_ok-terms.terms.items means.1,
              refuted_wider g.start t u log c.requires.0 wider (all_denied g.start.table c.args.clause.now) c.requires.1.1.1,
            ),
          ),
        ),
      ),
    )

pub put-requires : goal.put-requires
put-requires g c =
    let t = g.start.table in
    let u = c.terms_of.new.table in
    let log = c.args.log.now in
    let steps = c.in_ok-last.last.steps.items in
    let kept = c.in_ok-last.last.kept.items in
    let h = c.in_ok-last.ensures in
    let same = sym c.deref-2.ensures.value in (
      derives_wider g.start c.args.table.now u log c.requires.0 c.terms_of.ensures.wider,
      (
        subst (λ (ss : List SignedClaim). All (λ (s : SignedClaim). IsClaimOf (spoken g.start) t s.claim) ss) same (kept_claims g.start u log c.args.clause.now c.requires.1.1.0 steps kept h),
        (
          subst (λ (ss : List SignedClaim). FollowsFrom (derivation_in u log) (by_rule Resolution (numbers_of steps) none (map (claim_as_term t) ss))) same (chosen_follows g.start u log c.args.clause.now c.requires.1.1.0 steps kept h),
          (
            h.numbers.later,
            subst (λ (ss : List SignedClaim). TakesNoMore (derivation_in u log) (by_rule Resolution (numbers_of steps) none (map (claim_as_term t) ss))) same (chosen_exact g.start u log c.args.clause.now c.requires.1.1.0 steps kept h),
          ),
        ),
      ),
    )

pub returns-clause-put : goal.returns-clause-put
returns-clause-put g c =
    let u = c.terms_of.new.table in
    let log = c.args.log.now in
    some_put g.start u log c.args.clause.now c.requires.1.1.0 c.in_ok-last.last.steps.items c.in_ok-last.last.kept.items c.in_ok-last.ensures (derived u log) (derived c.put.new.table c.put.new.log) c.deref-2.result.now c.deref-2.ensures.value c.put.result c.put.ensures.put
