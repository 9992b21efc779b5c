use Rattle.std.specs.Prelude.{drop, length}
use Rattle.spec_text.specs.Lexemes.{lexemes_from}
use Rattle.spec_text.proofs.Blanks.{lexemes_have_no_blank}
use Rattle.spec_text.proofs.Parsing.{each_parsed}
use Rattle.spec_text.proofs.laws.each_text_is_read.Goals as goal

pub returns : goal.returns
returns c = λ text at n. each_parsed (length text) n (lexemes_from text at) (lexemes_have_no_blank 0 at (drop at text))
