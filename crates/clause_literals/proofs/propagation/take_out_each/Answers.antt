-- That each literal is taken out, until a premise is false or nothing more follows.
use Rattle.std.proofs.Common.{arith, subst, sym, length}
use Rattle.std.proofs.lemmas.List.{length-map}
use Rattle.term_core.specs.declared.ids.Lit.{Lit}
use Rattle.clause_literals.specs.Literals.{lists}
use Rattle.clause_literals.specs.Occurring.{OccursIn}
use Rattle.clause_literals.proofs.Advancing.{refuted_on}
use Rattle.clause_literals.proofs.Stepping.{going_none, going_more, going_smaller, going_all}
use Rattle.clause_literals.proofs.propagation.take_out_each.Goals as goal

pub loop-done-init : goal.loop-done-init
loop-done-init c = going_none (lists c.args.premises.now) _ _ (rw length-map c.requires.tracked)

pub of-losing-requires : goal.of-losing-requires
of-losing-requires c = c.requires.index.whole

pub pass_on-requires : goal.pass_on-requires
pass_on-requires c = record {
  counted = omega arith;
  below = rw length-map at (c.of-losing.ensures.below (length (lists c.args.premises.now)) c.requires.index.below);
}

pub returns-then-branch : goal.returns-then-branch
returns-then-branch c =
    let refuted = rw c.if-branch.true at c.in_ok-pass_on.ensures in
    refuted_on _ _ _ c.loop-done.invariant.advances refuted

pub loop-done-smaller : goal.loop-done-smaller
loop-done-smaller c =
    let went = rw c.if-branch.false at c.in_ok-pass_on.ensures in
    going_smaller (lists c.args.premises.now) c.args.held.now c.loop-done.held c.pass_on.new.held c.loop-done.left c.loop-done.done c.requires.consistent c.loop-done.invariant (omega arith) went.advances

pub loop-done-preserved : goal.loop-done-preserved
loop-done-preserved c =
    let went = rw c.if-branch.false at c.in_ok-pass_on.ensures in
    going_more (lists c.args.premises.now) c.requires.once c.args.occurrences.now c.requires.index c.args.held.now c.loop-done.held c.pass_on.new.held c.loop-done.left c.pass_on.new.left c.loop-done.done c.at.result c.of-losing.result.now (omega arith) c.at.ensures (λ k w. c.of-losing.ensures.complete k (subst (λ (x : Lit). OccursIn c.args.occurrences.now x k) (sym c.negated-complement.ensures) w)) c.loop-done.invariant went

pub returns : goal.returns
returns c = going_all (lists c.args.premises.now) c.requires.once c.args.held.now c.loop-done.held c.loop-done.left c.loop-done.done (omega arith) c.loop-done.invariant
