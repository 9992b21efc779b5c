-- Mark by mark.
use Rattle.std.proofs.Common.{◌≡◌, ◌<◌, false, length, get_or, sym, ◌∙◌, arith}
use Rattle.std.proofs.lemmas.Bool.{false≢true}
use Rattle.std.proofs.lemmas.List.{get_or_default}
use Rattle.term_clauses.proofs.Marked.{marked_below}
use Rattle.solve_core.proofs.SearchForms.{up_to, each_has_form, overflow_found}
use Rattle.solve_core.proofs.forms.first_overflow.Goals as goal

pub marks-init : goal.marks-init
marks-init c k lt m = absurd (omega (arith, lt))

pub marks-preserved-then-not-index : goal.marks-preserved-then-not-index
marks-preserved-then-not-index c =
    let marks = c.in_ok-marks.marks.items in
    let k = c.marks.number in
    let within : k < length marks = omega (arith, c.marks-test.true, c.len-number-end.ensures) in
    let at : c.index.result.now ≡ get_or marks k false = c.index.ensures ∙ get_or_default marks k c.index.result.now false within in
    up_to c.args.table.now marks k c.marks.invariant (λ m. absurd (false≢true (sym c.if-not-index.true ∙ at ∙ m)))

pub returns-in-Some : goal.returns-in-Some
returns-in-Some c =
    let marks = c.in_ok-marks.marks.items in
    let k = c.marks.number in
    let within : k < length marks = omega (arith, c.marks-test.true, c.len-number-end.ensures) in
    let at : c.index.result.now ≡ get_or marks k false = c.index.ensures ∙ get_or_default marks k c.index.result.now false within in
    overflow_found c.args.table.now c.args.roots.now marks c.in_ok-marks.ensures c.ids_are_unique.ensures k c.marks.invariant (sym at ∙ c.if-not-index.false) c.in-Some.wide (rw c.in-Some.is at c.in_ok-found.ensures)

pub marks-preserved : goal.marks-preserved
marks-preserved c = up_to c.args.table.now c.in_ok-marks.marks.items c.marks.number c.marks.invariant (λ m. rw c.in_default.is at c.in_ok-found.ensures)

pub returns : goal.returns
returns c = each_has_form c.args.table.now c.args.roots.now c.in_ok-marks.marks.items c.in_ok-marks.ensures (λ k m.
    c.marks.invariant k (omega (arith, marked_below c.in_ok-marks.marks.items k m, c.marks-test.false, c.len-number-end.ensures)) m)
