-- The arguments of one marked term more are marked, or it is not marked itself.
use Rattle.std.proofs.Common.{◌≡◌, suc, ◌-◌, ◌<◌, List, length, subst, sym, ◌∙◌, refl, arith}
use Rattle.std.proofs.lemmas.Bool.{false≢true}
use Rattle.term_core.specs.declared.ids.TermId.{TermId}
use Rattle.term_core.specs.Tables.{shape_of}
use Rattle.alethe_writer.specs.Marks.{IsNumberMarked, IsArgument, MarksNumbers, plain_numbers}
use Rattle.alethe_writer.proofs.Closing.{IsClosedFrom, closing_start, closing_skip, marked_below}
use Rattle.alethe_writer.proofs.Printed.{arguments_more, arguments_end}
use Rattle.alethe_writer.proofs.marks.mark_arguments.Goals as goal

pub terms-init : goal.terms-init
terms-init c = record { so_far = closing_start (IsNumberMarked c.args.marks.now) (IsArgument c.args.table.now) c.args.marks.now (λ k e. e) (λ k e. e); as_many = refl }

pub terms-preserved-then-marks-number : goal.terms-preserved-then-marks-number
terms-preserved-then-marks-number c =
    let t = c.args.table.now in
    let n = c.terms.number - 1 in
    let s = shape_of c.node.result.now in
    let next : c.terms.number ≡ suc n = omega (arith, c.terms-test.true) in
    let below = marked_below c.terms.marks n c.if-marks-number.true in
    let within : n < length t.terms = omega (arith, below, c.terms.invariant.as_many, c.requires) in
    let marks : MarksNumbers c.terms.marks (plain_numbers s.arguments) c.mark_terms.new.marks = subst (λ (ids : List TermId). MarksNumbers c.terms.marks (plain_numbers ids) c.mark_terms.new.marks) c.as_slice.ensures c.mark_terms.ensures in
    record {
      so_far = arguments_more t c.args.marks.now n c.terms.marks c.mark_terms.new.marks s c.ids_are_unique.ensures within c.node.ensures.means c.node.ensures.before (subst (λ k. IsClosedFrom (IsNumberMarked c.args.marks.now) (IsArgument t) k c.terms.marks) next c.terms.invariant.so_far) c.if-marks-number.true marks;
      as_many = marks.same_length ∙ c.terms.invariant.as_many;
    }

pub terms-preserved : goal.terms-preserved
terms-preserved c =
    let t = c.args.table.now in
    let n = c.terms.number - 1 in
    let next : c.terms.number ≡ suc n = omega (arith, c.terms-test.true) in
    record {
      so_far = closing_skip (IsNumberMarked c.args.marks.now) (IsArgument t) n c.terms.marks (subst (λ k. IsClosedFrom (IsNumberMarked c.args.marks.now) (IsArgument t) k c.terms.marks) next c.terms.invariant.so_far) (λ e. false≢true (sym c.if-marks-number.false ∙ e));
      as_many = c.terms.invariant.as_many;
    }

pub returns : goal.returns
returns c =
    let end : c.terms.number ≡ 0 = omega (arith, c.terms-test.false) in
    arguments_end c.args.table.now c.args.marks.now c.terms.marks c.terms.invariant.as_many (subst (λ k. IsClosedFrom (IsNumberMarked c.args.marks.now) (IsArgument c.args.table.now) k c.terms.marks) end c.terms.invariant.so_far)
