-- The first tree, and the others.
use Rattle.std.proofs.Common.{◌&&◌, ap, sym, ◌∙◌}
use Rattle.spec_sorts.specs.Forms.{are_named}
use Rattle.smt_sexpr.specs.Items.{trees_meant, tree_meant}
use Rattle.smt_command.proofs.NamedTrees.{split_named}
use Rattle.smt_command.proofs.shapes.are_named.Goals as goal

pub returns-then-not-is_named : goal.returns-then-not-is_named
returns-then-not-is_named c =
    let split = split_named (trees_meant c.named.rest) (trees_meant c.in-Some.others) (tree_meant c.in-Some.first) c.in-Some.ensures.first in
    sym (c.named.invariant ∙ split ∙ ap (λ b. b && are_named (trees_meant c.in-Some.others)) (sym c.is_named.ensures ∙ c.if-not-is_named.true))

pub named-preserved : goal.named-preserved
named-preserved c =
    let split = split_named (trees_meant c.named.rest) (trees_meant c.in-Some.others) (tree_meant c.in-Some.first) c.in-Some.ensures.first in
    c.named.invariant ∙ split ∙ ap (λ b. b && are_named (trees_meant c.in-Some.others)) (sym c.is_named.ensures ∙ c.if-not-is_named.false)
