-- One marked term after the other.
use Rattle.std.proofs.Common.{◌≡◌, ◌<◌, ◌∙◌, Bool, true, false, List, [], ◌++◌, ◌+◌, take, get_or, length, ap, sym, subst, arith}
use Rattle.std.proofs.lemmas.List.{take_all, get_or_default}
use Rattle.term_core.specs.declared.ids.TermId.{TermId}
use Rattle.term_core.specs.Tables.{clause_at, term_at}
use Rattle.spec_sorts.specs.Subterms.{subterms_of}
use Rattle.term_clauses.specs.Marks.{marked}
use Rattle.term_clauses.proofs.Bases.{flat_marked, flat_marked_more, flat_marked_same}
use Rattle.solve_core.specs.Sharing.{shared_by, AddsSharedTerms}
use Rattle.solve_core.proofs.SharedTerms.{adds_none, adds_trans, adds_same, are_shared}
use Rattle.solve_core.proofs.sharing.shared_terms.Goals as goal

pub marks-init : goal.marks-init
marks-init c = subst (λ (is : List TermId). AddsSharedTerms c.args.table.now [] is []) (sym c.new-ids.ensures.items) (adds_none c.args.table.now [])

pub marks-preserved-then-not-index : goal.marks-preserved-then-not-index
marks-preserved-then-not-index c =
    let t = c.args.table.now in
    let marks = c.in_ok-marks.marks.items in
    let n = c.marks.number in
    let lt : n < length marks = omega (arith, c.marks-test.true, c.len-number-end.ensures, c.in_ok-marks.marks.ok.0) in
    let here : get_or marks n false ≡ false = sym (c.index.ensures ∙ get_or_default marks n c.index.result.now false lt) ∙ c.if-not-index.true in
    adds_same t [] c.marks.ids.items (flat_marked shared_by (take n marks) t.terms) (flat_marked shared_by (take (n + 1) marks) t.terms)
    (flat_marked_same shared_by marks t.terms n lt c.in_ok-marks.ensures.short here) c.marks.invariant

pub marks-preserved : goal.marks-preserved
marks-preserved c =
    let t = c.args.table.now in
    let marks = c.in_ok-marks.marks.items in
    let n = c.marks.number in
    let id : TermId = record { 0 = n } in
    let lt : n < length marks = omega (arith, c.marks-test.true, c.len-number-end.ensures, c.in_ok-marks.marks.ok.0) in
    let here : get_or marks n false ≡ true = sym (c.index.ensures ∙ get_or_default marks n c.index.result.now false lt) ∙ c.if-not-index.false in
    let front = flat_marked shared_by (take n marks) t.terms in
    adds_same t [] c.add_shared.new.ids.items (front ++ shared_by (term_at t id)) (flat_marked shared_by (take (n + 1) marks) t.terms)
    (flat_marked_more shared_by marks t.terms n lt c.in_ok-marks.ensures.short here)
    (adds_trans t [] c.marks.ids.items c.add_shared.new.ids.items front (shared_by (term_at t id)) c.marks.invariant c.in_ok-add_shared.ensures)

pub returns : goal.returns
returns c =
    let t = c.args.table.now in
    let marks = c.in_ok-marks.marks.items in
    let n = c.marks.number in
    let whole = take_all n marks (omega (arith, c.marks-test.false, c.len-number-end.ensures, c.in_ok-marks.marks.ok.0)) in
    are_shared t c.marks.ids.items (subterms_of (clause_at t c.args.roots.now)) (marked marks t.terms) c.in_ok-marks.ensures.each c.in_ok-marks.ensures.only
    (adds_same t [] c.marks.ids.items (flat_marked shared_by (take n marks) t.terms) (flat_marked shared_by marks t.terms) (ap (λ (ms : List Bool). flat_marked shared_by ms t.terms) whole) c.marks.invariant)
