-- A dead entry changes nothing, and another is joined.
use Rattle.std.proofs.Common.{sym}
use Rattle.linear_form.specs.Entries.{live, variables_meant}
use Rattle.linear_form.specs.Making.{way_meant}
use Rattle.linear_form.proofs.Steps.{comes_as, joined_dead, joined_one, has_one}
use Rattle.linear_form.proofs.entries.join_entry.Goals as goal

pub returns-then-is_zero-clause-comes : goal.returns-then-is_zero-clause-comes
returns-then-is_zero-clause-comes c t d has one = joined_dead t (way_meant c.args.way) (variables_meant t (live c.args.entries.now.items)) c.args.entry (sym c.if-is_zero.ensures)

pub returns-clause-comes : goal.returns-clause-comes
returns-clause-comes c t d has one =
    comes_as _ _ c.join.result _ (joined_one t (way_meant c.args.way) (variables_meant t (live c.args.entries.now.items)) c.args.entry (sym c.if-is_zero.ensures))
    (c.join.ensures.comes t d (has_one t c.args.entry (sym c.if-is_zero.ensures) one) has)
