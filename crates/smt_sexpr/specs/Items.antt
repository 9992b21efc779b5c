-- What an s-expression, and a list of items, are in the words of trees.
use Rattle.std.specs.Prelude.{ℕ, ◌+◌, ◌<◌, ◌≤◌, min, List, [], ◌∷◌, length, Option, Some, None, ⊤}
use Rattle.spec_text.specs.Trees.{Tree, Trees, atom, list, none, more}
use Rattle.smt_sexpr.specs.declared.items.Item.{Item}
use Rattle.smt_sexpr.specs.declared.items.Item.TheVariants as items
use Rattle.smt_sexpr.specs.declared.items.Trees.{Trees as Cursor}
use Rattle.smt_sexpr.specs.declared.items.View.{View}
use Rattle.smt_sexpr.specs.declared.items.View.TheVariants as views
use Rattle.smt_sexpr.specs.declared.sexpr.Sexpr.{Sexpr}
pub use Rattle.smt_sexpr.specs.Means.{marks, bytes_at, first_of, tree_in}
unfoldable pub use Rattle.smt_sexpr.specs.Means.{trees_in}

-- the trees that a cursor means
abbrev pub trees_meant : Cursor → Trees
trees_meant c = trees_in c.text.now c.items.now

-- the first of them
abbrev pub tree_meant : Cursor → Tree
tree_meant c = tree_in c.text.now c.items.now

-- how many items they have, at any depth
abbrev pub size_of : Cursor → ℕ
size_of c = length c.items.now

-- the first tree, and those after it
abbrev pub split_first : Trees → Option (Tree × Trees)
split_first none = None
split_first (more t ts) = Some (t, ts)

-- how many items the first tree has
abbrev pub count_first : List Item → ℕ
count_first [] = 0
count_first (items.Atom k at size ∷ is) = 1
count_first (items.List at end count ∷ is) = min count (length is) + 1

-- a tree alone, and those after it
abbrev pub two : Cursor × Cursor → Tree × Trees
two x = (tree_meant x.0, trees_meant x.1)

-- the tree that was seen
abbrev pub seen : View → Tree
seen (views.Atom at k bytes) = atom at k bytes.now
seen (views.List at inside end) = list at (trees_meant inside) end

-- the trees in a list have fewer items than so many
abbrev pub IsShorter : View → ℕ → Type 0
IsShorter (views.Atom at k bytes) n = Unit {0}
IsShorter (views.List at inside end) n = size_of inside < n

-- each offset is from one on, and before another
abbrev mutual
  -- of a tree
  pub IsWithin : ℕ → ℕ → Tree → Type 0
  IsWithin low high (atom at k bytes) = (low ≤ at) × (at < high)
  IsWithin low high (list at ts end) = (low ≤ at) × (at < high) × AreWithin low high ts × (low ≤ end) × (end < high)

  -- of trees, one after the other
  pub AreWithin : ℕ → ℕ → Trees → Type 0
  AreWithin low high none = ⊤
  AreWithin low high (more t ts) = IsWithin low high t × AreWithin low high ts

-- the whole text that an s-expression was read from
abbrev pub text_of : Sexpr → List ℕ
text_of s = s.text.now

-- the items of an s-expression
abbrev pub items_of : Sexpr → List Item
items_of s = s.items.items

-- the offset of its first byte
abbrev pub start_of : Sexpr → ℕ
start_of s = s.start.offset

-- the tree that an s-expression is
abbrev pub tree_of : Sexpr → Tree
tree_of s = tree_in (text_of s) (items_of s)
