-- That all numbers come, or why not.
use Rattle.std.proofs.Common.{◌∙◌}
use Rattle.spec_arithmetic.specs.Contradictions.{numbered}
use Rattle.linear_form.specs.Clauses.{pairs_meant, numbered_meant}
use Rattle.linear_form.proofs.Joining.{makes_err}
use Rattle.linear_form.proofs.ClauseSteps.{number_more, number_fails, number_end, number_sides}
use Rattle.linear_form.proofs.clauses.numbers_of.Goals as goal

pub returns-in_err-push_number-clause-comes : goal.returns-in_err-push_number-clause-comes
returns-in_err-push_number-clause-comes c = λ t.
    let ps = c.args.pairs.now in
    let s = c.in_err-push_number.field-0.0 in
    makes_err (numbered (pairs_meant t ps)) c.from_residual.result s (λ v. numbered_meant t v.items)
    (number_fails t c.loop-pair.numbers.items ps c.loop-pair.pair-index c.pair-item.result c.loop-pair-test.true c.pair-item.is c.push_number.new.numbers.items s (numbered (pairs_meant t ps)) c.in_err-push_number.ensures (c.loop-pair.invariant.comes t)) c.from_residual.ensures.1

pub loop-pair-preserved : goal.loop-pair-preserved
loop-pair-preserved c = record {
  comes = λ t. c.loop-pair.invariant.comes t
      ∙ number_more t c.loop-pair.numbers.items c.args.pairs.now c.loop-pair.pair-index c.pair-item.result c.loop-pair-test.true c.pair-item.is c.push_number.new.numbers.items c.in_ok-push_number.ensures;
  there = λ t all. number_sides t c.loop-pair.numbers.items c.args.pairs.now c.loop-pair.pair-index c.pair-item.result c.loop-pair-test.true c.pair-item.is c.push_number.new.numbers.items c.in_ok-push_number.ensures all
      (c.loop-pair.invariant.there t all);
}

pub returns-clause-comes : goal.returns-clause-comes
returns-clause-comes c = λ t. c.loop-pair.invariant.comes t ∙ number_end t c.loop-pair.numbers.items c.args.pairs.now c.loop-pair.pair-index c.loop-pair-test.false
