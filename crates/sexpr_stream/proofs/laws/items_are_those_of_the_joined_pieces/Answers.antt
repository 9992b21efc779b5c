-- The laws of pieces.
use Rattle.sexpr_stream.proofs.Pieces.{begun, fed_on, closed_then, taken_on, done_then, fault_then}
use Rattle.sexpr_stream.proofs.laws.items_are_those_of_the_joined_pieces.Goals as goal

pub returns : goal.returns
returns c = record { begun = begun; fed = fed_on; taken = taken_on; closed = closed_then; done = done_then; fault = fault_then }
