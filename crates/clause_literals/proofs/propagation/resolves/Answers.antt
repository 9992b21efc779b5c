-- That the answer says whether there is a conflict.
use Rattle.std.proofs.Common.{subst, List}
use Rattle.spec_proofs.specs.Resolution.{both_ways, given}
use Rattle.term_core.specs.declared.ids.Lit.{Lit}
use Rattle.clause_literals.specs.Literals.{lit_complement}
use Rattle.clause_literals.specs.Statuses.{PropagatesNothing}
use Rattle.clause_literals.proofs.Advancing.{held_on}
use Rattle.clause_literals.proofs.Quiet.{no_conflict}
use Rattle.clause_literals.proofs.propagation.resolves.Goals as goal

pub returns-in_default : goal.returns-in_default
returns-in_default c = let h = rw c.in_default.is at c.in_ok-held.ensures in both_ways h.0 (given h.0 h.1) (given (lit_complement h.0) h.2)

pub returns-in-Conflict : goal.returns-in-Conflict
returns-in-Conflict c =
    let h = rw c.in-Some.is at c.in_ok-held.ensures in
    let p = rw c.in-Conflict.is at c.in_ok-pass_over.ensures in
    p _ (λ l i. given l ((h.0 l).0 i))

pub returns-in-Same : goal.returns-in-Same
returns-in-Same c =
    let h = rw c.in-Some.is at c.in_ok-held.ensures in
    let p = rw c.in-Same.is at c.in_ok-pass_over.ensures in
    no_conflict _ _ _ (λ l i. (h.0 l).1 i) h.1 (λ d i. subst (λ (x : List Lit). PropagatesNothing x d) p.0 (p.1 d i))

pub refutes-requires : goal.refutes-requires
refutes-requires c =
    let h = rw c.in-Some.is at c.in_ok-held.ensures in
    let p = rw c.in-Added.is at c.in_ok-pass_over.ensures in
    p.0.consistent h.1

pub returns-then-branch : goal.returns-then-branch
returns-then-branch c =
    let h = rw c.in-Some.is at c.in_ok-held.ensures in
    let p = rw c.in-Added.is at c.in_ok-pass_over.ensures in
    let refuted = rw c.if-branch.true at c.in_ok-refutes.ensures in
    refuted _ (p.0.derived _ (λ l i. given l ((h.0 l).0 i)))

pub returns : goal.returns
returns c =
    let h = rw c.in-Some.is at c.in_ok-held.ensures in
    let p = rw c.in-Added.is at c.in_ok-pass_over.ensures in
    let unrefuted = rw c.if-branch.false at c.in_ok-refutes.ensures in
    unrefuted _ (λ l i. held_on _ _ _ p.0 l ((h.0 l).1 i))
