-- The name is among the words if it is among those that are left.
use Rattle.std.proofs.Common.{◌≡◌, drop}
use Rattle.spec_text.specs.Bytes.{among}
use Rattle.smt_lexer.specs.Classes.{texts_of}
use Rattle.smt_lexer.proofs.words.is_one_of.Given as goal

abbrev pub invariant-loop-word : goal.invariant-loop-word
invariant-loop-word l = among (texts_of l.words) l.name ≡ among (texts_of (drop l.word-index l.words)) l.name
