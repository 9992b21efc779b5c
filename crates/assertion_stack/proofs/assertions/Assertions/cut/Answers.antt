-- Each column is cut.
use Rattle.std.proofs.Common.{take, ap, ◌∙◌}
use Rattle.assertion_stack.specs.Assertions.{AssertionsView, written_in}
use Rattle.assertion_stack.proofs.WrittenColumns.{written_cut}
use Rattle.assertion_stack.proofs.assertions.Assertions.cut.Goals as goal

pub returns : goal.returns
returns c =
    let n = c.args.len in
    let x = c.self.inside in
    let held = (λ i. written_in (c.cut.ensures i) (c.truncate-2.ensures.items i) (c.cut-2.ensures i)) ∙ written_cut x.texts x.places.items x.labels n in
    (λ i. (let a : AssertionsView = record { ids = c.truncate.ensures.items i; written = held i } in a))
    ∙ ap (λ (a : AssertionsView). (let b : AssertionsView = record { ids = take n a.ids; written = take n a.written } in b)) c.self.view_is
