-- A point comes after the digits, and digits after it.
use Rattle.std.proofs.Common.{arith, ◌∙◌, sym}
use Rattle.std.proofs.lemmas.List.{take_rest}
use Rattle.std.proofs.lemmas.Bool.Decides.{nat_tests}
use Rattle.smt_lexer.proofs.Prefixes.{number_is_decimal}
use Rattle.smt_lexer.proofs.pieces.number.Goals as goal

pub returns-clause-piece : goal.returns-clause-piece
returns-clause-piece c = c.ended-2.ensures.piece ∙ sym (number_is_decimal _ _ _ (omega arith) (grind (arith, nat_tests)) (rw take_rest at c.front_len-places.ensures.length) c.if-places-eq0.false)
