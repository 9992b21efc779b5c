-- The arguments of one term more are marked, or it is not marked itself.
use Rattle.std.proofs.Common.{◌≡◌, suc, ◌-◌, List, subst, sym, ◌∙◌, arith}
use Rattle.std.proofs.lemmas.Bool.{false≢true}
use Rattle.term_core.specs.declared.ids.TermId.{TermId}
use Rattle.term_core.specs.Tables.{clause_at, shape_of}
use Rattle.term_clauses.specs.Marks.{MarksTerms}
use Rattle.term_clauses.proofs.Marking.{IsMarkedFrom, marks_start, marks_more, marks_skip, marks_end}
use Rattle.term_clauses.proofs.marks.mark_subterms.Goals as goal

pub terms-init : goal.terms-init
terms-init c =
    let t = c.args.table.now in
    let roots = c.args.roots.now in
    record {
      so_far = marks_start t roots (c.subterms_are_least.ensures.there (clause_at t roots)) (c.subterms_are_least.ensures.closed (clause_at t roots)) c.args.marks.now c.mark_each.new.marks c.requires.short c.requires.none c.mark_each.ensures;
    }

pub terms-preserved-then-marks-number : goal.terms-preserved-then-marks-number
terms-preserved-then-marks-number c =
    let t = c.args.table.now in
    let roots = c.args.roots.now in
    let n = c.terms.number - 1 in
    let s = shape_of c.node.result.now in
    let next : c.terms.number ≡ suc n = omega (arith, c.terms-test.true) in
    let before : IsMarkedFrom t roots (suc n) c.terms.marks = subst (λ k. IsMarkedFrom t roots k c.terms.marks) next c.terms.invariant.so_far in
    let marks : MarksTerms c.terms.marks s.arguments c.mark_each-then-marks-number.new.marks = subst (λ (ids : List TermId). MarksTerms c.terms.marks ids c.mark_each-then-marks-number.new.marks) c.as_slice.ensures c.mark_each-then-marks-number.ensures in
    record {
      so_far = marks_more t roots (c.subterms_are_least.ensures.there (clause_at t roots)) (c.subterms_are_least.ensures.closed (clause_at t roots)) n c.terms.marks c.mark_each-then-marks-number.new.marks s before c.if-marks-number.true c.node.ensures.means c.node.ensures.before marks;
    }

pub terms-preserved : goal.terms-preserved
terms-preserved c =
    let t = c.args.table.now in
    let roots = c.args.roots.now in
    let n = c.terms.number - 1 in
    let next : c.terms.number ≡ suc n = omega (arith, c.terms-test.true) in
    record {
      so_far = marks_skip t roots (c.subterms_are_least.ensures.there (clause_at t roots)) (c.subterms_are_least.ensures.closed (clause_at t roots)) n c.terms.marks (subst (λ k. IsMarkedFrom t roots k c.terms.marks) next c.terms.invariant.so_far) (λ e. false≢true (sym c.if-marks-number.false ∙ e));
    }

pub returns : goal.returns
returns c =
    let t = c.args.table.now in
    let roots = c.args.roots.now in
    let least = c.subterms_are_least.ensures in
    let end : c.terms.number ≡ 0 = omega (arith, c.terms-test.false) in
    marks_end t roots (least.there (clause_at t roots)) (least.closed (clause_at t roots)) c.terms.marks (subst (λ k. IsMarkedFrom t roots k c.terms.marks) end c.terms.invariant.so_far) c.ids_are_unique.ensures (least.least (clause_at t roots))
