-- The first byte that is not read is at the limit.
use Rattle.std.proofs.Common.{◌≡◌, length, ap, arith}
use Rattle.spec_text.specs.declared.Fault.TheVariants.{TooLong}
use Rattle.spec_text.specs.Readings.{text_limit}
use Rattle.smt_sexpr.specs.Limited.{whole_of}
use Rattle.smt_sexpr.proofs.Limits.{long_kept, fault_at}
use Rattle.smt_sexpr.proofs.limited.LimitedText.too_long.Goals as goal

pub returns-clause-is : goal.returns-clause-is
returns-clause-is c =
    let size = ap length c.bytes-bytes.ensures in
    let long = long_kept (whole_of c.args.self.now) c.requires.long in
    let at : c.place_after.result.offset ≡ text_limit = omega (arith, c.place_after.ensures.offset, c.requires.from.within, size, long) in
    ap (fault_at TooLong) at
