-- The text at an index, and past the last one.
use Rattle.std.proofs.Common.{◌∙◌, arith}
use Rattle.std.proofs.lemmas.Bool.Decides.{nat_tests}
use Rattle.world_io.proofs.Places.{text_at-is, text_at-past}
use Rattle.world_io.proofs.memory.bytes_at.Goals as goal

pub returns-in-Some : goal.returns-in-Some
returns-in-Some c = c.as_slice.ensures ∙ text_at-is c.args.texts.now c.args.k c.in-Some.t.now (grind (arith, nat_tests, c.in-Some.ensures.lookup.0)) c.in-Some.ensures.lookup.1

pub returns-in-None : goal.returns-in-None
returns-in-None c = text_at-past c.args.texts.now c.args.k (grind (arith, nat_tests, c.in-None.ensures.lookup.0))
