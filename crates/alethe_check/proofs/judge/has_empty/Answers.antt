use Rattle.std.proofs.Common.{ap, ◌∙◌}
use Rattle.alethe_check.specs.Judging.{some_empty}
use Rattle.alethe_check.proofs.Empties.{empty_known}
use Rattle.alethe_check.proofs.judge.has_empty.Goals as goal

pub returns : goal.returns
returns c k known = empty_known c.args.state.now k c.any_empty.result known (c.any_empty.ensures ∙ ap some_empty c.deref.ensures.value)
