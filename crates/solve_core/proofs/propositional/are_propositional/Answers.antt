-- Term by term.
use Rattle.std.proofs.Common.{[], ◌∷◌, take, get_or, All, refl, sym, ap, ◌∙◌, subst}
use Rattle.std.proofs.lemmas.Bool.{false≢true}
use Rattle.std.proofs.lemmas.List.{take_all, take_more, map-append}
use Rattle.std.proofs.lemmas.List.Elements.{All-nil, All-push, All-contains, Contains-get_or}
use Rattle.spec_text.proofs.Members.{to_image}
use Rattle.spec_valuations.specs.Propositional.{IsPropositional}
use Rattle.term_core.specs.Tables.{term_at, clause_at}
use Rattle.term_clauses.specs.SpokenTerms.{no_id}
use Rattle.solve_core.proofs.propositional.are_propositional.Goals as goal

pub terms-init : goal.terms-init
terms-init c = All-nil IsPropositional

pub terms-preserved : goal.terms-preserved
terms-preserved c =
    let t = c.args.table.now in
    let ids = c.args.terms.now in
    let k = c.terms.id-index in
    let more = ap (clause_at t) (take_more ids k no_id c.terms-test.true) ∙ map-append (term_at t) (take k ids) (get_or ids k no_id ∷ []) in
    subst (All IsPropositional) (sym more)
    (All-push IsPropositional (clause_at t (take k ids)) (term_at t (get_or ids k no_id)) c.terms.invariant (c.if-not-is_propositional.ensures.0 refl))

-- one that is not
pub returns-then-not-is_propositional : goal.returns-then-not-is_propositional
returns-then-not-is_propositional c =
    let t = c.args.table.now in
    let ids = c.args.terms.now in
    let id = get_or ids c.terms.id-index no_id in (
      λ e. absurd (false≢true e),
      λ all. c.if-not-is_propositional.ensures.1 (All-contains IsPropositional (clause_at t ids) (term_at t id) all (to_image (term_at t) ids id (Contains-get_or ids c.terms.id-index no_id c.terms-test.true))),
    )

pub returns : goal.returns
returns c =
    let whole = take_all c.terms.id-index c.args.terms.now c.terms-test.false in
    (λ e. subst (λ ids. All IsPropositional (clause_at c.args.table.now ids)) whole c.terms.invariant, λ all. refl)
