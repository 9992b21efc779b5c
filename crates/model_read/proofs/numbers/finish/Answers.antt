-- One operation is done, and all are.
use Rattle.std.proofs.Common.{arith}
use Rattle.std.proofs.lemmas.List.{nil_from_length}
use Rattle.model_read.proofs.NumberTexts.{one_done, one_fails, none_pending}
use Rattle.model_read.proofs.numbers.finish.Goals as goal

pub pending-preserved : goal.pending-preserved
pending-preserved c whole h = one_done whole _ c.pop.new.self.items c.in-Some.operation c.pending.made (c.pending.invariant whole h) c.in-Some.ensures.items c.in-Ok.next c.in-Ok.ensures

pub returns-in-Err : goal.returns-in-Err
returns-in-Err c whole h = one_fails whole _ c.pop.new.self.items c.in-Some.operation c.pending.made (c.pending.invariant whole h) c.in-Some.ensures.items c.in-Err.fault c.in-Err.ensures

pub returns : goal.returns
returns c whole h =
    let e = c.in_default.ensures.cases.0 in
    none_pending whole _ c.pending.made (c.pending.invariant whole h) (nil_from_length c.pending.pending.items (omega (arith, e)))
