-- A definition, or its fault.
use Rattle.std.proofs.Common.{refl}
use Rattle.smt_command.specs.Commands.{parts_view}
use Rattle.alethe_reader.proofs.ReadCommands.{stopped, definition_of, definition_fault, definition_is}
use Rattle.alethe_reader.proofs.reading.define.Goals as goal

pub returns-in_err-definition : goal.returns-in_err-definition
returns-in_err-definition c k is = stopped k _ _ _ _ _ c.from_residual.ensures.1 (c.in_err-definition.ensures k is) (definition_fault k c.args.at (parts_view c.args.parts))

pub returns : goal.returns
returns c k is =
    let d = parts_view c.args.parts in
    let r = c.in_ok-definition.ensures k is in
    record { command = definition_of k c.args.at d r.definitions; is = definition_is k c.args.at d r.definitions r.read; states = refl; known = r.known; ready = tt }
