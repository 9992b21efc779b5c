-- A fault of the bytes that are read.
use Rattle.std.proofs.Common.{length, ap, arith, length-take}
use Rattle.spec_text.specs.Readings.{text_limit}
use Rattle.smt_sexpr.specs.Limited.{whole_of}
use Rattle.smt_sexpr.proofs.Limits.{stopped}
use Rattle.smt_sexpr.proofs.limited.LimitedText.next.Goals as goal

pub returns-in-Err-Fault : goal.returns-in-Err-Fault
returns-in-Err-Fault c = stopped (whole_of c.args.self.now) c.bytes.result.now c.args.at.offset c.args.open_lists c.in-Err-Fault.refusal c.cut_off.result c.bytes.ensures (rw c.in-Err-Fault.field-0-is at c.in-Err-Fault.ensures) c.cut_off.ensures

pub read_next-requires-clause-small : goal.read_next-requires-clause-small
read_next-requires-clause-small c = omega (arith, ap length c.bytes.ensures, length-take text_limit (whole_of c.args.self.now))
