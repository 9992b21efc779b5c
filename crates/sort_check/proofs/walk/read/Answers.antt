-- A row is read from its first text to its last.
use Rattle.std.proofs.Common.{sym, subst}
use Rattle.smt_sexpr.specs.Items.{trees_meant}
use Rattle.term_reader.specs.Names.{setting_meant}
use Rattle.term_reader.proofs.Tables.{keeps_same}
use Rattle.sort_check.specs.Walks.{here, IsWalk}
use Rattle.sort_check.specs.Steps.{Steps}
use Rattle.sort_check.proofs.Widening.{widens_same, grows_along}
use Rattle.sort_check.proofs.Whole.{root_of, walk_starts, walk_ends}
use Rattle.sort_check.proofs.walk.read.Goals as goal

pub steps-init : goal.steps-init
steps-init c =
    let w = setting_meant c.args.setting in
    let t = c.args.table.now in
    let v = c.args.scope.now in
    let texts = trees_meant c.args.texts in
    let e = c.requires.known in
    let at = sym (c.begin-walk.ensures t v) in (
      (root_of t e.0 c.args.bound texts, subst (IsWalk w (root_of t e.0 c.args.bound texts)) at (walk_starts w t v e.0 c.args.bound texts e.1 c.requires.bound)),
      λ root k. subst (IsWalk w root) at k,
      record { keeps = keeps_same t; widens = widens_same v },
    )

pub returns-in-Err-clause-ends : goal.returns-in-Err-clause-ends
returns-in-Err-clause-ends c =
    let w = setting_meant c.args.setting in
    let t = c.args.table.now in
    let v = c.args.scope.now in
    let texts = trees_meant c.args.texts in
    λ s h.
    let root = root_of t s c.args.bound texts in
    c.in-Err.ensures.goes root (c.steps.invariant.1 root (walk_starts w t v s c.args.bound texts h c.requires.bound))

pub returns-in-Err-clause-grows : goal.returns-in-Err-clause-grows
returns-in-Err-clause-grows c = grows_along _ _ _ c.steps.invariant.2 c.in-Err.ensures.grows

pub steps-preserved : goal.steps-preserved
steps-preserved c =
    let e = c.steps.invariant.0 in (
      (e.0, c.in-Ok-true.ensures.goes e.0 e.1),
      λ root k. c.in-Ok-true.ensures.goes root (c.steps.invariant.1 root k),
      grows_along _ _ _ c.steps.invariant.2 c.in-Ok-true.ensures.grows,
    )

pub returns-in-Ok-false-clause-ends : goal.returns-in-Ok-false-clause-ends
returns-in-Ok-false-clause-ends c =
    let w = setting_meant c.args.setting in
    let t = c.args.table.now in
    let v = c.args.scope.now in
    let texts = trees_meant c.args.texts in
    λ s h.
    let root = root_of t s c.args.bound texts in
    let next = subst (λ yes. Steps yes (here c.steps.table c.steps.scope c.steps.walk) (here c.step.new.table c.step.new.scope c.step.new.walk)) c.in-Ok-false.field-0-test c.in-Ok-false.ensures.next in
    walk_ends w t s c.args.bound texts (here c.step.new.table c.step.new.scope c.step.new.walk)
    (c.in-Ok-false.ensures.goes root (c.steps.invariant.1 root (walk_starts w t v s c.args.bound texts h c.requires.bound))) next.1 next.2
