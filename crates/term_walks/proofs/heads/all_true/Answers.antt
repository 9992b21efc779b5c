-- One value after the other is true.
use Rattle.std.proofs.Common.{false, true, sym, ◌∙◌, arith}
use Rattle.term_walks.proofs.Boolean.{all_more, all_end}
use Rattle.term_walks.proofs.heads.all_true.Goals as goal

pub returns-then-not-is_true : goal.returns-then-not-is_true
returns-then-not-is_true c sorts =
    sym (sym (c.values.invariant.same sorts) ∙ all_more sorts c.args.values.now c.values.value-index c.value-item.result false c.values-test.true c.value-item.is (rw c.if-not-is_true.true at c.is_true.ensures sorts))

pub values-preserved : goal.values-preserved
values-preserved c = record {
  same = λ sorts. sym (all_more sorts c.args.values.now c.values.value-index c.value-item.result true c.values-test.true c.value-item.is (rw c.if-not-is_true.false at c.is_true.ensures sorts)) ∙ c.values.invariant.same sorts;
}

pub returns : goal.returns
returns c sorts = sym (all_end sorts c.args.values.now c.values.value-index (omega (arith, c.values-test.false))) ∙ c.values.invariant.same sorts
