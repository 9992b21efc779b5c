-- Term by term.
use Rattle.std.proofs.Common.{◌≢◌, [], ◌∷◌, take, get_or, Contains, sym, ap, ◌∙◌, subst}
use Rattle.std.proofs.lemmas.List.{take_all, take_more, map-append}
use Rattle.spec_text.proofs.Members.{none, each_pushed}
use Rattle.spec_sorts.specs.Terms.{Number, Term, sort_of}
use Rattle.term_core.specs.Tables.{term_at, clause_at}
use Rattle.term_clauses.specs.SpokenTerms.{no_id}
use Rattle.solve_core.proofs.answering.have_numbers.Goals as goal

pub terms-init : goal.terms-init
terms-init c u i = absurd (none u i)

pub terms-preserved : goal.terms-preserved
terms-preserved c =
    let t = c.args.table.now in
    let ids = c.args.terms.now in
    let k = c.terms.id-index in
    let more = ap (clause_at t) (take_more ids k no_id c.terms-test.true) ∙ map-append (term_at t) (take k ids) (get_or ids k no_id ∷ []) in
    subst (λ ts. (u : Term) → Contains ts u → sort_of u ≢ Number) (sym more)
    (each_pushed (λ (u : Term). sort_of u ≢ Number) (clause_at t (take k ids)) (term_at t (get_or ids k no_id)) c.terms.invariant (rw c.if-is_number.false at c.is_number.ensures))

pub returns : goal.returns
returns c u i =
    let whole = sym (take_all c.terms.id-index c.args.terms.now c.terms-test.false) in
    c.terms.invariant u (subst (λ ids. Contains (clause_at c.args.table.now ids) u) whole i)
