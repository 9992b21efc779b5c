-- The byte after the name is a bar.
use Rattle.std.proofs.Common.{arith}
use Rattle.std.proofs.lemmas.Bool.Decides.{nat_tests}
use Rattle.smt_lexer.proofs.Prefixes.{quoted_is}
use Rattle.smt_lexer.proofs.pieces.quoted.Goals as goal

pub returns-clause-piece : goal.returns-clause-piece
returns-clause-piece c = quoted_is _ _ c.front_len-n.ensures.length (omega arith) (grind (arith, nat_tests))
