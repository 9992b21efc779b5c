-- The interpretation of a text, or its first fault with its place.
use Rattle.model_read.specs.Answers.{located_view}
use Rattle.model_read.proofs.ReadDefinitions.{placed_reads}
use Rattle.model_read.proofs.reading.read.Goals as goal

pub placed-requires : goal.placed-requires
placed-requires c =
    let g = c.requires.known.0 in
    let h = rw c.in-Err-Fault.field-0-is at c.in-Err-Fault.ensures in
    (c.faults_are_in_their_file.ensures g c.args.bytes.now (located_view c.in-Err-Fault.fault) (h g c.requires.known.1)).0

pub returns-in-Err-Fault : goal.returns-in-Err-Fault
returns-in-Err-Fault c g m =
    let h = rw c.in-Err-Fault.field-0-is at c.in-Err-Fault.ensures in
    placed_reads c.args.table.now g c.args.bytes.now c.in-Err-Fault.fault c.placed.result c.placed.ensures (h g m)
