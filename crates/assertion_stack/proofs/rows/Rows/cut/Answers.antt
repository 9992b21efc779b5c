-- The bytes of the rows that are left end where the next row began.
use Rattle.std.proofs.Common.{length, take, sym, ap, ◌∙◌, arith}
use Rattle.std.proofs.lemmas.List.{take_all}
use Rattle.assertion_stack.specs.Rows.{rows_from}
use Rattle.assertion_stack.proofs.RowEnds.{rows_long, rows_cut, ends_cut}
use Rattle.assertion_stack.proofs.rows.Rows.cut.Goals as goal

pub invariant_of-self : goal.invariant_of-self
invariant_of-self c =
    rw (c.truncate.ensures.items, c.truncate-then-len.ensures.items)
    (ends_cut c.self.inside.bytes.items c.self.inside.ends.items c.args.len c.start_of.result c.self.invariant c.start_of.ensures)

pub returns-then-len : goal.returns-then-len
returns-then-len c =
    (λ i. rows_from (c.truncate.ensures.items i) 0 (c.truncate-then-len.ensures.items i))
    ∙ rows_cut c.self.inside.bytes.items c.self.inside.ends.items c.args.len c.start_of.result c.self.invariant c.start_of.ensures
    ∙ ap (take c.args.len) c.self.view_is

pub returns-else-len : goal.returns-else-len
returns-else-len c =
    let long = rows_long c.self.inside.bytes.items 0 c.self.inside.ends.items in
    sym (take_all c.args.len c.args.self.now (omega (arith, long, ap length c.self.view_is, c.len.ensures, c.if-len.false, c.self.inside.ends.ok.0)))
