-- Term by term.
use Rattle.std.proofs.Common.{◌+◌, List, [], ◌∷◌, ◌++◌, take, get_or, ap, arith}
use Rattle.std.proofs.lemmas.List.{take_all}
use Rattle.term_core.specs.declared.ids.TermId.{TermId}
use Rattle.term_core.specs.Tables.{clause_at, term_at}
use Rattle.term_clauses.specs.SpokenTerms.{no_id}
use Rattle.solve_core.specs.Sharing.{reals_in}
use Rattle.solve_core.proofs.SharedTerms.{adds_none, adds_one, adds_same, is_a_real, is_no_real, reals_more, reals_same}
use Rattle.solve_core.proofs.sharing.add_reals.Goals as goal

pub terms-init : goal.terms-init
terms-init c = adds_none c.args.table.now c.args.ids.now.items

pub terms-preserved-then-not-is_number : goal.terms-preserved-then-not-is_number
terms-preserved-then-not-is_number c =
    let t = c.args.table.now in
    let ids = c.args.terms.now in
    let k = c.terms.id-index in
    adds_same t c.args.ids.now.items c.terms.ids.items (reals_in (clause_at t (take k ids))) (reals_in (clause_at t (take (k + 1) ids)))
    (reals_same t ids k no_id c.terms-test.true (is_no_real (term_at t (get_or ids k no_id)) c.if-not-is_number.ensures)) c.terms.invariant

pub terms-preserved : goal.terms-preserved
terms-preserved c =
    let t = c.args.table.now in
    let ids = c.args.terms.now in
    let k = c.terms.id-index in
    let id = get_or ids k no_id in
    let front = reals_in (clause_at t (take k ids)) in
    adds_same t c.args.ids.now.items c.push.new.self.items (front ++ term_at t id ∷ []) (reals_in (clause_at t (take (k + 1) ids)))
    (reals_more t ids k no_id c.terms-test.true (is_a_real (term_at t id) c.if-not-is_number.ensures))
    (adds_one t c.args.ids.now.items c.terms.ids.items c.push.new.self.items front id (c.requires k no_id c.terms-test.true) c.in_ok-push.ensures.items c.terms.invariant)

pub returns : goal.returns
returns c =
    let t = c.args.table.now in
    let ids = c.args.terms.now in
    let k = c.terms.id-index in
    let whole = take_all k ids (omega (arith, c.terms-test.false)) in
    adds_same t c.args.ids.now.items c.terms.ids.items (reals_in (clause_at t (take k ids))) (reals_in (clause_at t ids)) (ap (λ (is : List TermId). reals_in (clause_at t is)) whole) c.terms.invariant
