-- What is written for strings.
use Rattle.std.proofs.Common.{None, [], refl}
use Rattle.std.proofs.lemmas.List.Elements.{All-nil}
use Rattle.spec_text.specs.Readings.{IsReadUpTo}
use Rattle.spec_sorts.specs.Written.{trees_in}
use Rattle.spec_commands.specs.OnLiterals.{commands_on_literals}
use Rattle.spec_sessions.specs.Responses.{solve}
use Rattle.spec_sessions.specs.Examples.{limits, answers_of, strings}
use Rattle.spec_sessions.proofs.Computed.{IsJustified, transcript_of}
use Rattle.spec_sessions.proofs.examples.strings_are_written.Goals as goal

read : IsReadUpTo strings (trees_in strings) None
unfolding commands_on_literals
read = record { rest = []; trees = refl; stop = None; stops = refl; is = refl }

pub returns : goal.returns
unfolding commands_on_literals answers_of
returns c = transcript_of limits solve strings (trees_in strings) [] read (All-nil (IsJustified limits))
