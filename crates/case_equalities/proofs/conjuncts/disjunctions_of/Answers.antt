-- A marked number is a conjunct's; where it is a disjunction it is listed.
use Rattle.std.proofs.Common.{◌≡◌, ◌<◌, ◌∙◌, true, false, List, All, length, get_or, sym, subst, arith}
use Rattle.std.proofs.lemmas.List.{get_or_default}
use Rattle.std.proofs.lemmas.List.Elements.{All-push}
use Rattle.term_core.specs.declared.ids.TermId.{TermId}
use Rattle.term_core.specs.Tables.{clause_at}
use Rattle.case_equalities.specs.Finding.{IsDisjunctionIn}
use Rattle.case_equalities.proofs.conjuncts.disjunctions_of.Goals as goal

pub is_disjunction-requires : goal.is_disjunction-requires
is_disjunction-requires c =
    let marks = c.in_ok-conjuncts.conjuncts.items in
    let n = c.terms.number in
    let lt : n < length marks = omega (arith, c.terms-test.true, c.len-number-end.ensures, c.in_ok-conjuncts.conjuncts.ok.0) in
    let here : get_or marks n false ≡ true = sym (c.index.ensures ∙ get_or_default marks n c.index.result.now false lt) ∙ c.if-not-index.false in
    (c.in_ok-conjuncts.ensures (record { 0 = n }) here).0

pub terms-preserved : goal.terms-preserved
terms-preserved c =
    let t = c.args.table.now in
    let marks = c.in_ok-conjuncts.conjuncts.items in
    let n = c.terms.number in
    let id : TermId = record { 0 = n } in
    let P = IsDisjunctionIn t (clause_at t c.args.roots.now) in
    let lt : n < length marks = omega (arith, c.terms-test.true, c.len-number-end.ensures, c.in_ok-conjuncts.conjuncts.ok.0) in
    let here : get_or marks n false ≡ true = sym (c.index.ensures ∙ get_or_default marks n c.index.result.now false lt) ∙ c.if-not-index.false in
    subst (λ (ids : List TermId). All P ids) (sym c.in_ok-push.ensures.items)
    (All-push P c.terms.ids.items id c.terms.invariant (c.is_disjunction.ensures (clause_at t c.args.roots.now) c.if-not-is_disjunction.false (c.in_ok-conjuncts.ensures id here)))
