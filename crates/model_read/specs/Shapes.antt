-- The shapes of the lists of a model file, and how the code has them.
use Rattle.std.specs.Prelude.{ℕ, ◌==◌, ◌&&◌, not, Option, Some, codes}
use Rattle.std.specs.Str.{bytes_eq}
use Rattle.spec_text.specs.Trees.{Tree, Trees}
use Rattle.spec_text.specs.Shapes.{◌>>=◌, Word, passes, first_word, only_tree, inside_of, is_reserved, is_word}
use Rattle.spec_model_files.specs.Bodies.{tree_count}
use Rattle.smt_sexpr.specs.declared.items.Trees.{Trees as Cursor}
use Rattle.smt_sexpr.specs.Items.{tree_meant, split_first}
use Rattle.smt_sexpr.specs.Views.{word_view}
use Rattle.model_read.specs.declared.words.Triple as code_triple
use Rattle.model_read.specs.declared.words.RowText as code_row
use Rattle.model_read.specs.declared.words.DefinitionText as code_definition

-- An atom and two trees.
pub record WordPair : Type 0 where
  -- the atom
  pub word : Word
  -- the first tree
  pub left : Tree
  -- the second one
  pub right : Tree

-- An atom and three trees.
pub record RowParts : Type 0 where
  -- the atom
  pub word : Word
  -- the condition
  pub condition : Tree
  -- the value where it holds
  pub value : Tree
  -- the other rows
  pub others : Tree

-- The parts of a definition, after its word.
pub record DefinitionParts : Type 0 where
  -- the name of what is defined
  pub name : Tree
  -- the list of parameters
  pub parameters : Tree
  -- the sort of the body
  pub sort : Tree
  -- the body
  pub body : Tree

-- two trees
unfoldable pub pair_in : Trees → Option (Tree × Tree)
pair_in ts = do
  x ← split_first ts
  y ← only_tree x.1
  Some (x.0, y)

-- an atom and two trees
unfoldable pub triple_in : Trees → Option WordPair
triple_in ts = do
  w ← first_word ts
  x ← split_first w.1
  y ← only_tree x.1
  Some (record { word = w.0; left = x.0; right = y })

-- an atom that is a reserved word, and two trees
unfoldable pub reserved_in : Trees → Option WordPair
reserved_in ts = do
  p ← triple_in ts
  reserved ← passes (is_reserved p.word.kind)
  Some p

-- an atom and three trees
unfoldable pub row_in : Trees → Option RowParts
row_in ts = do
  w ← first_word ts
  c ← split_first w.1
  v ← split_first c.1
  o ← only_tree v.1
  Some (record { word = w.0; condition = c.0; value = v.0; others = o })

-- a row and the offset of its list, where there are so many parameters
unfoldable pub row_at : ℕ → Tree → Option (ℕ × RowParts)
row_at count t = do
  some ← passes (not (count == 0))
  x ← inside_of t
  r ← row_in x.1
  Some (x.0, r)

-- the word `define-fun`, and four trees
unfoldable pub definition_in : Trees → Option DefinitionParts
definition_in ts = do
  w ← first_word ts
  n ← split_first w.1
  p ← split_first n.1
  s ← split_first p.1
  b ← only_tree s.1
  defines ← passes (is_reserved w.0.kind && bytes_eq w.0.bytes (codes "define-fun"))
  Some (record { name = n.0; parameters = p.0; sort = s.0; body = b })

-- the word `-`, and a tree
unfoldable pub negation_in : Trees → Option Tree
negation_in ts = do
  w ← first_word ts
  t ← only_tree w.1
  minus ← passes (is_word (codes "-") w.0)
  Some t

-- the word `/`, and two trees
unfoldable pub quotient_in : Trees → Option (Tree × Tree)
quotient_in ts = do
  w ← first_word ts
  t ← split_first w.1
  d ← only_tree t.1
  over ← passes (is_word (codes "/") w.0)
  Some (t.0, d)

-- the word `=`, and two trees
unfoldable pub equality_in : Trees → Option (Tree × Tree)
equality_in ts = do
  w ← first_word ts
  x ← split_first w.1
  v ← only_tree x.1
  equal ← passes (is_word (codes "=") w.0)
  Some (x.0, v)

-- the word `and`, and so many trees
unfoldable pub conjunction_in : ℕ → Trees → Option Trees
conjunction_in count ts = do
  w ← first_word ts
  many ← passes (is_word (codes "and") w.0 && (tree_count w.1 == count))
  Some w.1

-- the code's pair
abbrev pub pair_view : Cursor × Cursor → Tree × Tree
pair_view x = (tree_meant x.0, tree_meant x.1)

-- the code's atom and two trees
abbrev pub triple_view : code_triple.Triple → WordPair
triple_view x = record { word = word_view x.word; left = tree_meant x.left; right = tree_meant x.right }

-- the code's row
abbrev pub row_view : code_row.RowText → RowParts
row_view x = record {
  word = word_view x.word;
  condition = tree_meant x.condition;
  value = tree_meant x.value;
  others = tree_meant x.others;
}

-- the code's definition
abbrev pub definition_view : code_definition.DefinitionText → DefinitionParts
definition_view x = record {
  name = tree_meant x.name;
  parameters = tree_meant x.parameters;
  sort = tree_meant x.sort;
  body = tree_meant x.body;
}
