-- Each byte moves the place as the definition counts it.
use Rattle.std.proofs.Common.{arith}
use Rattle.std.proofs.lemmas.Bool.Decides.{nat_tests}
use Rattle.smt_lexer.proofs.Steps.{small_column, place_behind_break, place_behind_byte}
use Rattle.smt_lexer.proofs.places.one_further.Goals as goal

pub overflow_add-result-else-bytes-place-eq10-2 : goal.overflow_add-result-else-bytes-place-eq10-2
overflow_add-result-else-bytes-place-eq10-2 c = omega (arith, small_column c.args.bytes.now c.args.place c.requires.place)

pub returns-then-bytes-place-eq10-clause-place : goal.returns-then-bytes-place-eq10-clause-place
returns-then-bytes-place-eq10-clause-place c = place_behind_break c.args.bytes.now c.args.place c.requires.place c.requires.within (grind (arith, nat_tests))

pub returns-else-bytes-place-eq10-clause-place : goal.returns-else-bytes-place-eq10-clause-place
returns-else-bytes-place-eq10-clause-place c = place_behind_byte c.args.bytes.now c.args.place c.requires.place c.requires.within (grind (arith, nat_tests))
