-- What is kept is good within the same limit, and so is what its text is read as.
use Rattle.std.proofs.Common.{Some, refl}
use Rattle.spec_commands.specs.Checks.{term_limit}
use Rattle.spec_proofs.proofs.Limits.{whole_text}
use Rattle.spec_checking.specs.Commands.{known_at}
use Rattle.spec_trims.specs.Trims.{trimmed}
use Rattle.spec_trims.proofs.Good.{trims_good, nothing_empty}
use Rattle.spec_trims.proofs.FlatCommands.{good_alike}
use Rattle.spec_trims.proofs.Texts.{moved_lines, same_lines, trim_short}
use Rattle.spec_trims.proofs.laws.trimmed_texts_are_accepted.Goals as goal

pub returns : goal.returns
returns c = λ script k proof a short.
    let known = known_at a.check in
    let kept = trims_good (Some term_limit) known a.commands (nothing_empty a.check) a.good in
    record {
      check = a.check;
      current = a.current;
      short = short;
      commands = moved_lines 2 (trimmed a.commands);
      read = trim_short proof a.commands (whole_text proof a.commands a.short a.read) short;
      good = good_alike (Some term_limit) known known (trimmed a.commands) (moved_lines 2 (trimmed a.commands)) kept.commands refl (same_lines 2 (trimmed a.commands)) kept.read kept.right kept.empty;
    }
