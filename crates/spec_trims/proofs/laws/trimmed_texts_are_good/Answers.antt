-- What is kept is good, and so is what its text is read as.
use Rattle.std.proofs.Common.{None, refl}
use Rattle.spec_checking.specs.Commands.{known_at}
use Rattle.spec_trims.specs.Trims.{trimmed}
use Rattle.spec_trims.proofs.Good.{trims_good, nothing_empty}
use Rattle.spec_trims.proofs.FlatCommands.{good_alike}
use Rattle.spec_trims.proofs.Texts.{moved_lines, same_lines, trim_read}
use Rattle.spec_trims.proofs.laws.trimmed_texts_are_good.Goals as goal

pub returns : goal.returns
returns c = λ limit script k proof g.
    let kept = trims_good None (known_at g.check) g.commands (nothing_empty g.check) g.good in
    record {
      check = g.check;
      current = g.current;
      commands = moved_lines 2 (trimmed g.commands);
      read = trim_read proof g.commands g.read;
      good = good_alike None (known_at g.check) (known_at g.check) (trimmed g.commands) (moved_lines 2 (trimmed g.commands)) kept.commands refl (same_lines 2 (trimmed g.commands)) kept.read kept.right kept.empty;
    }
