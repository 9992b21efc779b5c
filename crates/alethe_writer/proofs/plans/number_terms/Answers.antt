-- One number more.
use Rattle.std.proofs.Common.{◌≡◌, ◌+◌, ◌++◌, length, drop, sym, ap, ◌∙◌, arith}
use Rattle.spec_proof_texts.specs.Plans.{counted, definition_marks}
use Rattle.spec_proof_texts.proofs.Numbers.{definition_marks_length}
use Rattle.alethe_writer.proofs.Counted.{counted_on, counted_done, next_below}
use Rattle.alethe_writer.proofs.plans.number_terms.Goals as goal

pub terms-preserved : goal.terms-preserved
terms-preserved c =
    let cs = definition_marks c.args.table.now.terms c.args.printed.now c.args.heights.now in
    let as_many : length cs ≡ length c.args.printed.now = definition_marks_length c.args.table.now.terms c.args.printed.now c.args.heights.now c.requires.as_many c.requires.as_many_heights ∙ sym c.requires.as_many in
    let lt = c.terms-test.true in
    record {
      so_far = ap (λ out. out ++ counted c.number.new.self.next (drop (c.terms.number + 1) cs)) c.in_ok-push.ensures.items ∙ counted_on (counted 1 cs) c.terms.numbers.items c.terms.counter.next c.number.new.self.next cs c.terms.number c.is_defined-wanted.result c.number.result (omega (arith, as_many, lt)) c.is_defined-wanted.ensures c.number.ensures c.terms.invariant.so_far;
      below = next_below c.terms.counter.next c.is_defined-wanted.result c.number.result c.number.new.self.next (c.terms.number + 1) c.number.ensures c.terms.invariant.below;
    }

pub returns : goal.returns
returns c =
    let cs = definition_marks c.args.table.now.terms c.args.printed.now c.args.heights.now in
    let as_many : length cs ≡ length c.args.printed.now = definition_marks_length c.args.table.now.terms c.args.printed.now c.args.heights.now c.requires.as_many c.requires.as_many_heights ∙ sym c.requires.as_many in
    counted_done c.terms.counter.next c.terms.numbers.items (counted 1 cs) cs c.terms.number (omega (arith, as_many, c.terms-test.false)) c.terms.invariant.so_far
