-- The tree that is read has other offsets, and fewer bars.
use Rattle.spec_text.proofs.Words.{words_of_tree}
use Rattle.spec_text.proofs.Printing.{moved, same_moved, printed_reads}
use Rattle.spec_text.proofs.laws.printed_trees_read_back.Goals as goal

pub returns : goal.returns
returns c text at t rest e = (moved 0 t, printed_reads t (words_of_tree text at t rest e), same_moved 0 t)
