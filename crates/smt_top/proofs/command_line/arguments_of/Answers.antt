-- One argument more.
use Rattle.std.proofs.Common.{◌∙◌}
use Rattle.smt_top.proofs.CommandLines.{none_are_prefix, more_are_prefix}
use Rattle.smt_top.proofs.command_line.arguments_of.Goals as goal

pub turns-init : goal.turns-init
turns-init g c = none_are_prefix _ _ c.new-arguments.ensures.items

pub turns-preserved : goal.turns-preserved
turns-preserved g c =
    more_are_prefix (g.C.CommandLine.arguments c.args.line.now) _ _ c.in-Some.argument c.len.result c.turns.invariant (c.len.ensures ∙ c.turns.arguments.ok.0) (rw c.in-Some.is at c.in_ok-argument.ensures) c.in-Ok.ensures.items
