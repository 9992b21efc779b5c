-- The text is read as one row of commands, which are printed alike.
use Rattle.std.proofs.Common.{ap, ◌∙◌}
use Rattle.spec_trims.specs.Trims.{trimmed, trim_text}
use Rattle.spec_trims.proofs.Texts.{moved_lines, trim_read, one_whole, text_again}
use Rattle.spec_trims.proofs.laws.trimming_texts_is_idempotent.Goals as goal

pub returns : goal.returns
returns c = λ text ts us h again. ap trim_text (one_whole (trim_text ts) us (moved_lines 2 (trimmed ts)) again (trim_read text ts h)) ∙ text_again ts
