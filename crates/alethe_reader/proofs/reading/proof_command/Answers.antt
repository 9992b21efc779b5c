-- A list by its shape, or the fault where it has none.
use Rattle.spec_proofs.specs.declared.ProofKind.TheVariants.{BadShape}
use Rattle.alethe_reader.proofs.ReadCommands.{refused_by, command_atom, command_shaped, command_unshaped}
use Rattle.alethe_reader.proofs.reading.proof_command.Goals as goal

pub returns-in-Atom : goal.returns-in-Atom
returns-in-Atom c k is = refused_by k c.args.state.now _ c.in-Atom.at BadShape _ (rw c.from.ensures at c.fault.ensures) (command_atom k _ _ _ _ c.in-Atom.ensures.seen)

pub returns-in-Some : goal.returns-in-Some
returns-in-Some c k is = rw (command_shaped k _ _ _ _ c.in-List.ensures.seen _ c.in-Some.ensures) (rw c.from-in-Some.ensures at c.by_shape.ensures k is)

pub returns-in-None : goal.returns-in-None
returns-in-None c k is = refused_by k c.args.state.now _ c.in-List.at BadShape _ (rw c.from-in-None.ensures at c.fault-in-None.ensures) (command_unshaped k _ _ _ _ c.in-List.ensures.seen c.in-None.ensures)
