-- What is known at the check, and the verdict from there.
use Rattle.spec_checking.specs.Commands.{known_at}
use Rattle.alethe_check.proofs.judge_at.Goals as goal

pub judge-requires : goal.judge-requires
judge-requires c =
    let (limit, check, represents, assumed) = c.requires in
    (known_at check, c.in_ok-known.ensures.known limit check represents (rw c.as_slice.ensures.value assumed))

pub returns : goal.returns
returns c limit check represents assumed = c.judge.ensures (known_at check) (c.in_ok-known.ensures.known limit check represents (rw c.as_slice.ensures.value assumed))
