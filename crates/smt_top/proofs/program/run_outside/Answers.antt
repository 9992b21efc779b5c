-- Memory ran out before the run: nothing was written, to any sink.
use Rattle.std.proofs.Common.{[], None}
use Rattle.world_io.specs.Writing.{SinkView}
use Rattle.smt_top.proofs.Programs.{exits_early}
use Rattle.smt_top.proofs.program.run_outside.Goals as goal

pub returns : goal.returns
returns g c =
    let unused : SinkView = record { known = None; faults = 0; pending = []; room = None } in
    (unused, unused, exits_early _ None (λ _. None) unused c.exit_code.ensures)
