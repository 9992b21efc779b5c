-- The parts of `let`. Source: SMT-LIB 2.6, section 3.6.1.
use Rattle.std.specs.Prelude.{Option, Some}
use Rattle.spec_text.specs.Trees.{Tree, Trees}
use Rattle.spec_text.specs.Shapes.{Word, ◌>>=◌, first_word, first_list, inside_of, no_tree}
use Rattle.smt_sexpr.specs.declared.items.Trees.{Trees as Cursor}
use Rattle.smt_sexpr.specs.declared.shapes.Word as code
use Rattle.smt_sexpr.specs.Items.{trees_meant, tree_meant, split_first}
use Rattle.smt_sexpr.specs.Views.{word_view}

-- the first binding, its name and its term, and the bindings after it
unfoldable pub first_binding : Trees → Option (Word × (Tree × Trees))
first_binding ts =
    split_first ts >>= λ l.
    inside_of l.0 >>= λ i.
    first_word i.1 >>= λ x.
    split_first x.1 >>= λ t.
    no_tree t.1 >>= λ end.
    Some (x.0, (t.0, l.1))

-- bindings, and a body under them
unfoldable pub let_parts : Trees → Option (Trees × Tree)
let_parts us =
    first_list us >>= λ l.
    split_first l.1 >>= λ t.
    no_tree t.1 >>= λ end.
    Some (l.0, t.0)

-- a binding of the code
abbrev pub binding_meant : code.Word × Cursor × Cursor → Word × (Tree × Trees)
binding_meant x = (word_view x.0, (tree_meant x.1, trees_meant x.2))

-- the parts of a `let` of the code
abbrev pub let_meant : Cursor × Cursor → Trees × Tree
let_meant x = (trees_meant x.0, tree_meant x.1)
