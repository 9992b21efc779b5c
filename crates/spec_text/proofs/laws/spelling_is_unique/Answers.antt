-- Both are what the bytes begin with.
use Rattle.std.proofs.Common.{◌∙◌, sym}
use Rattle.spec_text.proofs.Spelling.{spelled_lexeme}
use Rattle.spec_text.proofs.laws.spelling_is_unique.Goals as goal

pub returns : goal.returns
returns c bytes x y s t = sym (spelled_lexeme bytes x s) ∙ spelled_lexeme bytes y t
