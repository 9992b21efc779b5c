-- The lexemes are those of the trees that are built from them.
use Rattle.std.proofs.Common.{length}
use Rattle.spec_text.specs.Lexemes.{lexemes}
use Rattle.spec_text.proofs.Blanks.{lexemes_have_no_blank}
use Rattle.spec_text.proofs.Nesting.{trees_without_fault}
use Rattle.spec_text.proofs.laws.a_text_without_fault_is_read.Goals as goal

pub returns : goal.returns
returns c text e = trees_without_fault (length text) (lexemes 0 0 text) (lexemes_have_no_blank 0 0 text) e
