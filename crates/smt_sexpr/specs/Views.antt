-- What the values mean that taking trees apart gives.
use Rattle.std.specs.Prelude.{ℕ}
use Rattle.spec_text.specs.Trees.{Trees}
use Rattle.spec_text.specs.Shapes.{Word}
use Rattle.smt_sexpr.specs.Items.{trees_meant}
use Rattle.smt_sexpr.specs.declared.items.Trees.{Trees as Cursor}
use Rattle.smt_sexpr.specs.declared.shapes.Word as code

-- an atom
abbrev pub word_view : code.Word → Word
word_view w = record { at = w.at; kind = w.kind; bytes = w.bytes.now }

-- an atom, and the trees after it
abbrev pub word_rest : code.Word × Cursor → Word × Trees
word_rest x = (word_view x.0, trees_meant x.1)

-- the trees in a list, and those after it
abbrev pub list_rest : Cursor × Cursor → Trees × Trees
list_rest x = (trees_meant x.0, trees_meant x.1)

-- a list's offset, and the trees in it
abbrev pub inside_view : ℕ × Cursor → ℕ × Trees
inside_view x = (x.0, trees_meant x.1)
