-- Both rows come before the same lexemes.
use Rattle.std.proofs.Common.{◌∙◌, sym}
use Rattle.spec_text.proofs.Stopping.{one_row}
use Rattle.spec_text.proofs.laws.lexemes_are_read_up_to_one_end.Goals as goal

pub returns : goal.returns
returns c xs rest others ts us a b free free_too = one_row ts us rest others free free_too (sym a ∙ b)
