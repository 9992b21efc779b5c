-- Each line is read at its offset.
use Rattle.spec_trims.specs.Trims.{trimmed}
use Rattle.spec_trims.proofs.Texts.{moved_lines, same_lines, trim_read}
use Rattle.spec_trims.proofs.laws.trimmed_texts_are_read_back.Goals as goal

pub returns : goal.returns
returns c = λ text ts h. (moved_lines 2 (trimmed ts), trim_read text ts h, same_lines 2 (trimmed ts))
