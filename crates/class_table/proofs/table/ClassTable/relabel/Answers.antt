-- What there was at marks stays.
use Rattle.std.proofs.Common.{◌∙◌, length, ap}
use Rattle.class_table.specs.Classes.{ClassesView}
use Rattle.class_table.proofs.Marks.{marks_kept}
use Rattle.class_table.proofs.table.ClassTable.relabel.Goals as goal

pub returns-then-size-clause-marks : goal.returns-then-size-clause-marks
returns-then-size-clause-marks c =
    let t = c.self.inside in
    marks_kept t.marks.items (length t.rings.numbers) t.rings.merges c.self.invariant c.join.new.self.merges (record { from = c.number-first.result; into = c.number-second.result }) c.join.ensures.merges
    ∙ ap (λ (v : ClassesView). v.marks) c.self.view_is

pub returns-else-size-clause-marks : goal.returns-else-size-clause-marks
returns-else-size-clause-marks c =
    let t = c.self.inside in
    marks_kept t.marks.items (length t.rings.numbers) t.rings.merges c.self.invariant c.join-else-size.new.self.merges (record { from = c.number-second.result; into = c.number-first.result }) c.join-else-size.ensures.merges
    ∙ ap (λ (v : ClassesView). v.marks) c.self.view_is
