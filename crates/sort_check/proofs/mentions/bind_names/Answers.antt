-- The names of bindings, one after the other.
use Rattle.std.proofs.Common.{[], ◌∷◌, ◌++◌, sym, ap, ◌∙◌, arith, append_assoc, append-nil}
use Rattle.spec_reading.specs.Names.{names_bound}
use Rattle.smt_sexpr.specs.Items.{trees_meant, tree_meant}
use Rattle.smt_sexpr.specs.Views.{word_view}
use Rattle.sort_check.proofs.FreeNames.{names_none, names_more}
use Rattle.sort_check.proofs.Lets.{binding_size}
use Rattle.sort_check.proofs.mentions.bind_names.Goals as goal

pub bindings-smaller : goal.bindings-smaller
bindings-smaller c = omega (arith, binding_size (trees_meant c.bindings.rest) (word_view c.in-Some.name) (tree_meant c.in-Some.field-0-1) (trees_meant c.in-Some.after) (sym c.in-Some.ensures.gives))

pub bindings-preserved : goal.bindings-preserved
bindings-preserved c =
    let inner = c.bindings.inner in
    let after = trees_meant c.in-Some.after in
    let x = word_view c.in-Some.name in
    ap (λ ns. ns ++ names_bound after) c.in_ok-push.ensures.added
    ∙ append_assoc inner (x.bytes ∷ []) (names_bound after)
    ∙ ap (λ ns. inner ++ ns) (sym (names_more (trees_meant c.bindings.rest) x (tree_meant c.in-Some.field-0-1) after (sym c.in-Some.ensures.gives)))
    ∙ c.bindings.invariant

pub returns : goal.returns
returns c =
    let inner = c.bindings.inner in
    sym (append-nil inner) ∙ ap (λ ns. inner ++ ns) (sym (names_none (trees_meant c.bindings.rest) (sym c.in_default.ensures.gives))) ∙ c.bindings.invariant
