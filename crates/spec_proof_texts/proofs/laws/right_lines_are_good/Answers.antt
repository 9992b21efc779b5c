-- The lines are where they were printed, and each is right after those before it.
use Rattle.std.proofs.Common.{Some, None, arith}
use Rattle.spec_proof_texts.specs.Meaning.{nothing_told}
use Rattle.spec_proof_texts.proofs.Lexed.{commands_at, alone_whole}
use Rattle.spec_proof_texts.proofs.AllLines.{all_good, lines_writable}
use Rattle.spec_proof_texts.proofs.Sizes.{text_size}
use Rattle.spec_proof_texts.proofs.laws.right_lines_are_good.Goals as goal

pub returns-clause-commands : goal.returns-clause-commands
returns-clause-commands c = λ g asserted lines own right. (
  commands_at 0 lines,
  alone_whole lines (lines_writable g own asserted (nothing_told right.placed) right.end lines right.right),
  all_good None g asserted own lines 2 right tt tt,
)

pub returns-clause-within : goal.returns-clause-within
returns-clause-within c = λ limit g asserted lines own right names terms. (
  commands_at 0 lines,
  alone_whole lines (lines_writable g own asserted (nothing_told right.placed) right.end lines right.right),
  all_good (Some limit) g asserted own lines 2 right (omega (arith, text_size lines, names)) (omega (arith, text_size lines, terms)),
)
