-- The assertion of a place has its text, its offset and its label.
use Rattle.std.proofs.Common.{◌<◌, length, get_or, ap, sym, ◌∙◌, arith}
use Rattle.assertion_stack.specs.Assertions.{AssertionsView, Written, no_written, row_label}
use Rattle.assertion_stack.proofs.WrittenColumns.{written_at}
use Rattle.assertion_stack.proofs.assertions.Assertions.written.Goals as goal

pub returns : goal.returns
returns c =
    let x = c.self.inside in
    let k = c.args.place in
    let lt : k < length x.ids.items = omega (arith, c.requires, ap (λ (a : AssertionsView). length a.ids) c.self.view_is) in
    (λ i. (let w : Written = record { text = c.row.ensures i; at = c.index.ensures i; label = (c.name_held.ensures ∙ ap row_label c.row-2.ensures) i } in w))
    ∙ sym (written_at x.texts x.places.items x.labels k c.index.result.now (omega (arith, lt, c.self.invariant.texts_long)) (omega (arith, lt, c.self.invariant.places_long)) (omega (arith, lt, c.self.invariant.labels_long)))
    ∙ ap (λ (a : AssertionsView). get_or a.written k no_written) c.self.view_is
