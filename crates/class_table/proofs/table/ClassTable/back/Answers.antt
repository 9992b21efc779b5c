-- What there was at older marks stays.
use Rattle.std.proofs.Common.{arith, ◌≡◌, ◌∙◌, ◌-◌, ◌<◌, List, length, map, take, ap, ap₂, subst}
use Rattle.std.proofs.lemmas.List.{length-map}
use Rattle.class_table.specs.declared.rings.MergeMark.{MergeMark}
use Rattle.class_table.specs.Classes.{ClassesView}
use Rattle.class_table.specs.Kept.{numbers_at, mark_at, no_mark}
use Rattle.class_table.proofs.Marks.{marks_back}
use Rattle.class_table.proofs.table.ClassTable.back.Goals as goal

pub returns-clause-marks : goal.returns-clause-marks
returns-clause-marks c =
    let t = c.self.inside in
    let marks = t.marks.items in
    let found = c.in-Some.ensures.lookup.3 in
    let kept : c.len.result - c.args.marks ≡ length c.args.self.now.marks - c.args.marks =
    omega (arith, c.len.ensures, t.marks.ok.0, length-map marks (numbers_at t.rings.merges), ap (λ (v : ClassesView). length v.marks) c.self.view_is) in
    let low : c.len.result - c.args.marks < length marks = subst (λ (ms : List MergeMark). c.len.result - c.args.marks < length ms) c.deref.ensures.value found.0 in
    let is : c.in-Some.field-0.now ≡ mark_at marks (c.len.result - c.args.marks) = found.1 no_mark ∙ ap (λ (ms : List MergeMark). mark_at ms (c.len.result - c.args.marks)) c.deref.ensures.value in
    let merges : c.back.new.self.merges ≡ take (mark_at marks (c.len.result - c.args.marks)).merges t.rings.merges = c.back.ensures.merges ∙ ap (λ (m : MergeMark). take m.merges t.rings.merges) is in
    ap₂ (λ ms xs. map (numbers_at ms) xs) merges c.truncate.ensures.items
    ∙ marks_back marks (length t.rings.numbers) t.rings.merges c.self.invariant (c.len.result - c.args.marks) low
    ∙ ap₂ (λ n (v : ClassesView). take n v.marks) kept c.self.view_is
