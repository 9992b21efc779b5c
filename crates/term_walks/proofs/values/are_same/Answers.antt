-- One value after the other is the same.
use Rattle.std.proofs.Common.{◌<◌, length, true, false, sym, ◌∙◌, subst, arith}
use Rattle.std.proofs.lemmas.List.{length-map}
use Rattle.term_walks.specs.Valuations.{value_meant, values_meant}
use Rattle.term_walks.proofs.Fitting.{lengths_differ, same_more, same_none, named_at}
use Rattle.term_walks.proofs.values.are_same.Goals as goal

pub returns-then-left-right : goal.returns-then-left-right
returns-then-left-right c sorts apart here there =
    sym (lengths_differ (values_meant sorts c.args.left.now) (values_meant sorts c.args.right.now)
    (λ e. c.if-left-right.true (sym (length-map c.args.left.now (value_meant sorts)) ∙ e ∙ length-map c.args.right.now (value_meant sorts))))

pub returns-then-not-is_same : goal.returns-then-not-is_same
returns-then-not-is_same c sorts apart here there =
    let lr : c.values.at < length c.args.right.now = subst (λ n. c.values.at < n) c.values.invariant.long c.values-test.true in
    sym (same_more sorts c.args.left.now c.args.right.now c.values.at c.index-left-at.result c.index-right-at.result false c.values-test.true lr c.index-left-at.is c.index-right-at.is
    (rw c.if-not-is_same.true at c.is_same.ensures sorts apart (named_at sorts c.args.left.now c.values.at c.index-left-at.result here c.values-test.true c.index-left-at.is) (named_at sorts c.args.right.now c.values.at c.index-right-at.result there lr c.index-right-at.is)))
    ∙ c.values.invariant.same sorts apart here there

pub values-preserved : goal.values-preserved
values-preserved c =
    let lr : c.values.at < length c.args.right.now = subst (λ n. c.values.at < n) c.values.invariant.long c.values-test.true in
    record {
      long = c.values.invariant.long;
      same = λ sorts apart here there.
          sym (same_more sorts c.args.left.now c.args.right.now c.values.at c.index-left-at.result c.index-right-at.result true c.values-test.true lr c.index-left-at.is c.index-right-at.is
          (rw c.if-not-is_same.false at c.is_same.ensures sorts apart (named_at sorts c.args.left.now c.values.at c.index-left-at.result here c.values-test.true c.index-left-at.is) (named_at sorts c.args.right.now c.values.at c.index-right-at.result there lr c.index-right-at.is)))
          ∙ c.values.invariant.same sorts apart here there;
    }

pub returns : goal.returns
returns c sorts apart here there =
    sym (same_none sorts c.args.left.now c.args.right.now c.values.at (omega (arith, c.values-test.false)) (omega (arith, c.values-test.false, c.values.invariant.long))) ∙ c.values.invariant.same sorts apart here there
