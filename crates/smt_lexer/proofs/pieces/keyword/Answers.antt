-- The name has a byte at least.
use Rattle.smt_lexer.proofs.Prefixes.{keyword_is}
use Rattle.smt_lexer.proofs.pieces.keyword.Goals as goal

pub returns-clause-piece : goal.returns-clause-piece
returns-clause-piece c = keyword_is _ _ c.front_len-n.ensures.length c.if-n-eq0.false
