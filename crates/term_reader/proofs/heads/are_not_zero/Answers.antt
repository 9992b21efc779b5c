use Rattle.std.proofs.Common.{sym, ap, ◌∙◌}
use Rattle.std.specs.Prelude.{not}
use Rattle.spec_sorts.specs.Theory.{is_zero_divisor}
use Rattle.term_reader.proofs.Taken.{passes_on}
use Rattle.term_reader.proofs.heads.are_not_zero.Goals as goal

pub ids-preserved : goal.ids-preserved
ids-preserved c =
    let h = passes_on (λ d. not (is_zero_divisor d)) c.args.table.now c.ids.rest.now c.in-Some.after.now c.in-Some.id.now c.in-Some.ensures.cases.0 c.ids.invariant.there (ap not (sym c.is_zero_divisor.ensures ∙ c.if-is_zero_divisor.false)) in
    record { there = h.0; same = h.1 ∙ c.ids.invariant.same }
