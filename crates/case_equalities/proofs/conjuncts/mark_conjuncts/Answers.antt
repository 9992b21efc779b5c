-- First the terms themselves are marked, then the arguments of one marked conjunction after the other.
use Rattle.std.proofs.Common.{◌-◌, arith}
use Rattle.term_core.specs.declared.ids.TermId.{TermId}
use Rattle.term_core.specs.Tables.{clause_at}
use Rattle.case_equalities.proofs.Asserted.{roots_are, conjuncts_more}
use Rattle.case_equalities.proofs.conjuncts.mark_conjuncts.Goals as goal

pub terms-init : goal.terms-init
terms-init c = record {
  short = omega (arith, c.mark_each.ensures.length, c.requires.short);
  are = roots_are c.args.table.now c.args.roots.now c.args.marks.now c.mark_each.new.marks c.requires.there c.requires.none c.mark_each.ensures.marks;
}

pub terms-preserved-then-marks-number : goal.terms-preserved-then-marks-number
terms-preserved-then-marks-number c =
    let t = c.args.table.now in
    let roots = c.args.roots.now in
    let id : TermId = record { 0 = c.terms.number - 1 } in
    let made = c.mark_each-then-marks-number in
    record {
      short = omega (arith, made.ensures.length, c.terms.invariant.short);
      are = conjuncts_more t roots c.terms.marks made.new.marks c.conjuncts.result.now c.terms.invariant.are (c.conjuncts.ensures (clause_at t roots) (c.terms.invariant.are id c.if-marks-number.true)) made.ensures.marks;
    }
