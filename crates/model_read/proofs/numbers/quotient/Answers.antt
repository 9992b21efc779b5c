-- That the quotient is this one, or beyond the bounds.
use Rattle.model_read.proofs.NumberTexts.{divisor_nonzero, quotient_made, quotient_beyond}
use Rattle.model_read.proofs.numbers.quotient.Goals as goal

pub div-requires : goal.div-requires
div-requires c = divisor_nonzero c.args.divisor c.in-Some-divisor.d c.in-Some-divisor.is c.requires

pub returns-in-Ok : goal.returns-in-Ok
returns-in-Ok c x y hx hy = quotient_made c.args.number c.args.divisor c.in-Some.q c.in-Some-divisor.d c.in-Some.is c.in-Some-divisor.is x y hx hy c.in-Ok.made c.in-Ok.ensures

pub returns-in-Err : goal.returns-in-Err
returns-in-Err c x y hx hy = quotient_beyond c.args.number c.args.divisor c.in-Some.q c.in-Some-divisor.d c.in-Some.is c.in-Some-divisor.is x y hx hy _ c.in-Err.ensures
