-- All lines, one after the other.
use Rattle.std.proofs.Common.{◌∙◌, ◌+◌}
use Rattle.gen_script.specs.Scripts.{declaration, order}
use Rattle.gen_script.proofs.Lines.{joined}
use Rattle.gen_script.proofs.script.text.Goals as goal

pub returns : goal.returns
returns c =
    c.from.ensures ∙ joined declaration (λ i. order i (i + 1)) c.args.n _ _ _ _ _ _ _ _ _ _ _ _ c.new-text.ensures.items c.in_ok-extend_from_slice.ensures.items c.in_ok-add_declarations.ensures c.in_ok-add_declaration.ensures c.in_ok-add_orders.ensures
    c.in_ok-add_order.ensures c.in_ok-add_ending.ensures c.in_ok-extend_from_slice-2.ensures.items
