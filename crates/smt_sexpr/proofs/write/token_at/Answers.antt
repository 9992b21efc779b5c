-- It is a token, so it has bytes.
use Rattle.smt_sexpr.proofs.Tokens.{token_longer}
use Rattle.smt_sexpr.proofs.write.token_at.Goals as goal

pub returns-in_default : goal.returns-in_default
returns-in_default c = (c.in-Ok.token.place, c.in-Ok.ensures.0, token_longer _ _ _ _ c.in-Ok.token.kind c.in_default.not-End c.in-Ok.ensures.0, c.in-Ok.ensures.2)
