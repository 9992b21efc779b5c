-- One value after the other is taken.
use Rattle.std.proofs.Common.{◌+◌, drop, sym, ◌∙◌, arith}
use Rattle.ratio128.specs.Meant.{fraction, overflow}
use Rattle.term_walks.specs.Valuations.{value_meant, values_meant}
use Rattle.term_walks.specs.Operations.{operated}
use Rattle.term_walks.proofs.Folding.{step_ok, step_err, left_more, left_none}
use Rattle.term_walks.proofs.heads.folded.Goals as goal

pub returns-in-Err-clause-exact : goal.returns-in-Err-clause-exact
returns-in-Err-clause-exact c sorts =
    step_err (operated c.args.op) (value_meant sorts c.rest.done) (value_meant sorts c.value-item.result) (values_meant sorts (drop (c.rest.value-index + 1) c.args.rest.now))
    (fraction c.number.result) (fraction c.number-in-rest.result) (overflow c.in-Err.wide) c.in-Err.ensures (c.number.ensures sorts) (c.number-in-rest.ensures sorts)
    ∙ sym (left_more sorts (operated c.args.op) (value_meant sorts c.rest.done) c.args.rest.now c.rest.value-index c.value-item.result c.rest-test.true c.value-item.is) ∙ c.rest.invariant.same sorts

pub rest-preserved : goal.rest-preserved
rest-preserved c = record {
  same = λ sorts.
      step_ok (operated c.args.op) (value_meant sorts c.rest.done) (value_meant sorts c.value-item.result) (values_meant sorts (drop (c.rest.value-index + 1) c.args.rest.now))
      (fraction c.number.result) (fraction c.number-in-rest.result) (fraction c.in-Ok.number) c.in-Ok.ensures (c.number.ensures sorts) (c.number-in-rest.ensures sorts)
      ∙ sym (left_more sorts (operated c.args.op) (value_meant sorts c.rest.done) c.args.rest.now c.rest.value-index c.value-item.result c.rest-test.true c.value-item.is) ∙ c.rest.invariant.same sorts;
  named = λ sorts h. tt;
}

pub returns-clause-exact : goal.returns-clause-exact
returns-clause-exact c sorts =
    sym (left_none sorts (operated c.args.op) (value_meant sorts c.rest.done) c.args.rest.now c.rest.value-index (omega (arith, c.rest-test.false))) ∙ c.rest.invariant.same sorts
