use Rattle.std.proofs.Common.{sym, ◌∙◌}
use Rattle.spec_sorts.specs.Theory.{is_divisor}
use Rattle.term_reader.proofs.Taken.{passes_on}
use Rattle.term_reader.proofs.heads.are_divisors.Goals as goal

pub ids-preserved : goal.ids-preserved
ids-preserved c =
    let h = passes_on is_divisor c.args.table.now c.ids.rest.now c.in-Some.after.now c.in-Some.id.now c.in-Some.ensures.cases.0 c.ids.invariant.there (sym c.is_divisor.ensures ∙ c.if-not-is_divisor.false) in
    record { there = h.0; same = h.1 ∙ c.ids.invariant.same }
