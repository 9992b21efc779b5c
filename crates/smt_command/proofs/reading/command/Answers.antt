-- A fault is in its s-expression.
use Rattle.std.proofs.Common.{ap, sym, ◌∙◌}
use Rattle.spec_commands.specs.Commands.{command_of}
use Rattle.smt_command.proofs.CommandTrees.{placed_fault}
use Rattle.smt_command.proofs.reading.command.Goals as goal

pub returns-in-Err : goal.returns-in-Err
returns-in-Err c = (
  placed_fault c.args.sexpr.now c.in-Err.found.offset c.in-Err.found.fault c.place_in.result (ap command_of (sym c.trees.ensures.tree) ∙ c.in-Err.ensures) c.faults_are_in_their_command.ensures c.offsets_have_places.ensures c.place_in.ensures.offset,
  c.place_in.ensures.place,
)
