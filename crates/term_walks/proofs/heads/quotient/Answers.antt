-- A quotient by 0 is 0.
use Rattle.std.proofs.Common.{refl}
use Rattle.ratio128.specs.Meant.{fraction}
use Rattle.term_walks.proofs.Fixed.{quotient_zero}
use Rattle.term_walks.proofs.heads.quotient.Goals as goal

pub returns-then-is_zero : goal.returns-then-is_zero
returns-then-is_zero c = quotient_zero (fraction c.args.left) (fraction c.args.right) (fraction c.zero.result) c.args.left.parts.positive (c.if-is_zero.ensures.0 refl) c.zero.ensures
