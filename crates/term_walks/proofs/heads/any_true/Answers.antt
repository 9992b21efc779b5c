-- One value after the other is not true.
use Rattle.std.proofs.Common.{false, true, sym, ◌∙◌, arith}
use Rattle.term_walks.proofs.Boolean.{any_more, any_end}
use Rattle.term_walks.proofs.heads.any_true.Goals as goal

pub returns-then-is_true : goal.returns-then-is_true
returns-then-is_true c sorts =
    sym (sym (c.values.invariant.same sorts) ∙ any_more sorts c.args.values.now c.values.value-index c.value-item.result true c.values-test.true c.value-item.is (rw c.if-is_true.true at c.is_true.ensures sorts))

pub values-preserved : goal.values-preserved
values-preserved c = record {
  same = λ sorts. sym (any_more sorts c.args.values.now c.values.value-index c.value-item.result false c.values-test.true c.value-item.is (rw c.if-is_true.false at c.is_true.ensures sorts)) ∙ c.values.invariant.same sorts;
}

pub returns : goal.returns
returns c sorts = sym (any_end sorts c.args.values.now c.values.value-index (omega (arith, c.values-test.false))) ∙ c.values.invariant.same sorts
