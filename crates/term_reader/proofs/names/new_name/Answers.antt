use Rattle.std.proofs.Common.{rules}
use Rattle.spec_text.specs.Answers.{require, ◌>>=◌}
use Rattle.term_reader.proofs.names.new_name.Goals as goal

pub returns-then-is_barred : goal.returns-then-is_barred
unfolding require ◌>>=◌
returns-then-is_barred c = search rules

pub returns-then-taken : goal.returns-then-taken
unfolding require ◌>>=◌
returns-then-taken c = search rules

pub returns : goal.returns
unfolding require ◌>>=◌
returns c = search rules
