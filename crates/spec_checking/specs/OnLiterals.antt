-- What a proof unfolds to compute proofs that are written out.
use Rattle.std.specs.Prelude.{⊤}
use Rattle.spec_commands.specs.OnLiterals.{commands_on_literals}
use Rattle.spec_checking.specs.Commands.{keywords_in, assume_shape, step_shape, shape_of}
use Rattle.spec_checking.specs.Reading.{fresh_name, named_in, in_proof, literals_in, roomy_literals, roomy_formula}
use Rattle.spec_checking.specs.Reading.{roomy_definitions, premises_of, read_shape, command_of}

-- the commands of a proof
unfoldable pub proofs_on_literals : ⊤
unfolding commands_on_literals keywords_in assume_shape step_shape shape_of fresh_name named_in in_proof literals_in
    roomy_literals roomy_formula roomy_definitions premises_of read_shape command_of
proofs_on_literals = tt
