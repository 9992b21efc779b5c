-- The lines are where they were printed.
use Rattle.std.proofs.Common.{map}
use Rattle.spec_text.proofs.Printing.{all_moved}
use Rattle.spec_models.specs.Values.{trees_of}
use Rattle.spec_proof_texts.specs.Lines.{line_tree}
use Rattle.spec_proof_texts.proofs.Lexed.{commands_at, alone_whole}
use Rattle.spec_proof_texts.proofs.laws.printed_proofs_are_read.Goals as goal

pub returns : goal.returns
returns c = λ lines h. (commands_at 0 lines, alone_whole lines h, all_moved 2 (trees_of (map line_tree lines)))
