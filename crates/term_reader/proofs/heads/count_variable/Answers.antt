use Rattle.std.proofs.Common.{◌∙◌, arith}
use Rattle.term_reader.proofs.Taken.{counts_on}
use Rattle.term_reader.proofs.heads.count_variable.Goals as goal

pub ids-preserved : goal.ids-preserved
ids-preserved c =
    let before = c.ids.invariant in
    let h = counts_on c.args.table.now c.ids.rest.now c.in-Some.after.now c.in-Some.id.now c.ids.count c.counted-count.result c.is_constant.result c.in-Some.ensures.cases.0 before.there c.is_constant.ensures c.counted-count.ensures in
    record { there = h.0; few = omega (arith, h.2, before.few); same = h.1 ∙ before.same }
