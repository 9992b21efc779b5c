-- By the form of each text.
use Rattle.spec_trims.proofs.Commands.{names_of_command}
use Rattle.spec_trims.proofs.laws.names_are_made_by_shape.Goals as goal

pub returns : goal.returns
returns c = λ limit k t command s read is. (names_of_command limit k t command s read is).0
