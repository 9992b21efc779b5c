-- Each column has one more.
use Rattle.std.proofs.Common.{[], ◌∷◌, ◌++◌, ap, sym, ◌∙◌}
use Rattle.spec_text.specs.Trees.{offset_of}
use Rattle.spec_text.specs.Printed.{printed}
use Rattle.spec_commands.specs.Labels.{label_of}
use Rattle.smt_sexpr.specs.Items.{tree_meant}
use Rattle.assertion_stack.specs.Assertions.{AssertionsView, written_in, as_written, label_row}
use Rattle.assertion_stack.proofs.WrittenColumns.{written_more}
use Rattle.assertion_stack.proofs.assertions.Assertions.add.Goals as goal

pub returns-clause-added : goal.returns-clause-added
returns-clause-added c =
    let x = c.self.inside in
    let t = tree_meant c.args.tree in
    let ids = c.push_reserved-2.ensures.items ∙ ap (λ is. is ++ c.args.id ∷ []) c.reserve.ensures.items in
    let places = c.push_reserved.ensures.items ∙ (λ i. c.reserve-2.ensures.items i ++ c.offset.ensures i ∷ []) in
    let labels = c.in_ok-put_label.ensures.added ∙ ap (λ o. x.labels ++ label_row o ∷ []) c.label_in.ensures in
    let held =
    (λ i. written_in (c.in_default.ensures.added i) (places i) (labels i))
    ∙ written_more x.texts x.places.items x.labels (c.self.invariant.texts_long ∙ sym c.self.invariant.places_long) (c.self.invariant.texts_long ∙ sym c.self.invariant.labels_long) (printed t) (offset_of t) (label_of t) in
    (λ i. (let a : AssertionsView = record { ids = ids i; written = held i } in a))
    ∙ ap (λ (a : AssertionsView). (let b : AssertionsView = record { ids = a.ids ++ c.args.id ∷ []; written = a.written ++ as_written t ∷ [] } in b)) c.self.view_is
