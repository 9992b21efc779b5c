-- That the literals' judgement is that of the terms.
use Rattle.rule_bool.proofs.Resolvents.{right_there, right_back}
use Rattle.rule_bool.proofs.resolvent.resolution.Goals as goal

pub returns-then-branch : goal.returns-then-branch
returns-then-branch c =
    let right = rw (c.if-branch.true, c.deref.ensures.value, c.deref-2.ensures.value) at c.in_ok-resolves.ensures in
    right_there _ c.ids_are_unique.ensures _ _ _ _ c.in_ok-found.ensures c.in_ok-wanted.ensures right

pub returns : goal.returns
returns c =
    let wrong = rw (c.if-branch.false, c.deref.ensures.value, c.deref-2.ensures.value) at c.in_ok-resolves.ensures in
    (λ r. wrong (right_back _ c.ids_are_unique.ensures _ _ _ _ c.in_ok-found.ensures c.in_ok-wanted.ensures r), λ wide. wide)
