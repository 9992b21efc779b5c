-- One step back.
use Rattle.std.proofs.Common.{◌∙◌, arith}
use Rattle.congruence_explain.proofs.Backward.{walk_begins, walk_skips, walk_resolves, walk_ends}
use Rattle.congruence_explain.proofs.chain.walk_back.Goals as goal

pub steps-init : goal.steps-init
steps-init c = walk_begins c.args.trace.now.implied.items c.args.trace.now.last.items c.len-at.result (c.len-at.ensures ∙ c.args.trace.now.implied.ok.0) c.new-needed.result c.add_each.new.needed c.new-needed.ensures (rw c.deref.ensures.value at c.in_ok-add_each.ensures)

pub steps-preserved-then-not-contains : goal.steps-preserved-then-not-contains
steps-preserved-then-not-contains c = walk_skips c.args.trace.now.implied.items c.args.trace.now.last.items c.steps.at c.index-step.result.now c.steps-test.true (omega (arith, c.steps.auto.at, c.len-at.ensures, c.args.trace.now.implied.ok.0)) c.index-step.ensures c.steps.needed c.steps.invariant (rw c.negated.ensures at c.if-not-contains.ensures)

pub steps-preserved : goal.steps-preserved
steps-preserved c = walk_resolves c.args.trace.now.implied.items c.args.trace.now.last.items c.steps.at c.index-step.result.now c.steps-test.true (omega (arith, c.steps.auto.at, c.len-at.ensures, c.args.trace.now.implied.ok.0)) c.index-step.ensures c.steps.needed c.steps.invariant c.add_each-in-steps.new.needed (rw c.negated.ensures at c.if-not-contains.ensures) (rw c.deref-in-steps.ensures.value at c.in_ok-add_each-2.ensures)

pub returns : goal.returns
returns c = walk_ends c.args.trace.now.implied.items c.args.trace.now.last.items c.steps.at c.steps-test.false c.steps.needed c.steps.invariant
