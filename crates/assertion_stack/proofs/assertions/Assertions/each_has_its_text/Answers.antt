-- Each column has as many as there are terms.
use Rattle.std.proofs.Common.{length, ap, sym, ◌∙◌}
use Rattle.assertion_stack.specs.Assertions.{AssertionsView}
use Rattle.assertion_stack.proofs.WrittenColumns.{written_long}
use Rattle.assertion_stack.proofs.assertions.Assertions.each_has_its_text.Goals as goal

pub returns : goal.returns
returns c =
    ap (λ (a : AssertionsView). length a.written) (sym c.self.view_is)
    ∙ written_long (length c.self.inside.ids.items) c.self.inside.texts c.self.inside.places.items c.self.inside.labels c.self.invariant
    ∙ ap (λ (a : AssertionsView). length a.ids) c.self.view_is
