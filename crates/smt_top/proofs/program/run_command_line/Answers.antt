-- The run was made, or memory ran out before it.
use Rattle.smt_top.proofs.Programs.{exits_by, exits_early}
use Rattle.smt_top.proofs.program.run_command_line.Goals as goal

pub returns-in-Ok-clause-ends : goal.returns-in-Ok-clause-ends
returns-in-Ok-clause-ends g c =
    exits_by _ c.run_buffered.result (g.C.CommandLine.arguments c.args.line.now) (g.F.Shelf.holds c.args.shelf.now) _ _ c.in-Ok.arguments.items c.exit_code.ensures c.in-Ok.ensures (rw c.as_slice.ensures.value at c.run_buffered.ensures.ends) c.run_buffered.ensures.passed_on

pub returns-in-Err-clause-ends : goal.returns-in-Err-clause-ends
returns-in-Err-clause-ends g c =
    exits_early _ (g.C.CommandLine.arguments c.args.line.now) (g.F.Shelf.holds c.args.shelf.now) _ c.exit_code-in-Err.ensures
