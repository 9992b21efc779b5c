-- One that takes part has its arguments.
use Rattle.std.proofs.Common.{true≢false, sym, ◌∙◌}
use Rattle.congruence_closure.proofs.listing.used_by.Goals as goal

pub returns-then-takes_part : goal.returns-then-takes_part
returns-then-takes_part c = λ part. c.as_slice.ensures

pub returns-else-takes_part : goal.returns-else-takes_part
returns-else-takes_part c = λ part. absurd (true≢false (sym part ∙ c.if-takes_part.false))
