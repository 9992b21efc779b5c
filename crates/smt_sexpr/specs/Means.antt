-- The trees that a flat list of items means, and the items of trees.
use Rattle.std.specs.Prelude.{◌≡◌, ℕ, zero, suc, ◌+◌, List, [], ◌∷◌, ◌++◌, length, take, drop}
use Rattle.spec_text.specs.declared.Kind.{Kind}
use Rattle.spec_text.specs.declared.Kind.TheVariants.{Numeral, Text, Quoted, Keyword}
use Rattle.spec_text.specs.Lexemes.{lexemes_from}
use Rattle.spec_text.specs.Trees.{Tree, Trees, atom, list, none, more, spelled}
use Rattle.smt_sexpr.specs.declared.items.Item.{Item}
use Rattle.smt_sexpr.specs.declared.items.Item.TheVariants as items

-- how many bytes are before a word's own: a quote, a bar or a colon
abbrev pub marks : Kind → ℕ
marks Text = 1
marks Quoted = 1
marks Keyword = 1
marks _ = 0

-- a word's own bytes
abbrev pub bytes_at : List ℕ → Kind → ℕ → ℕ → List ℕ
bytes_at text k at size = take size (drop (at + marks k) text)

-- a list's item has the number of items in it; the first number bounds the nesting and the length
abbrev pub trees_within : List ℕ → ℕ → List Item → Trees
trees_within text zero is = none
trees_within text (suc n) [] = none
trees_within text (suc n) (items.Atom k at size ∷ is) =
    more (atom at k (bytes_at text k at size)) (trees_within text n is)
trees_within text (suc n) (items.List at end count ∷ is) =
    more (list at (trees_within text n (take count is)) end) (trees_within text n (drop count is))

-- the trees that the items mean in a text
unfoldable pub trees_in : List ℕ → List Item → Trees
trees_in text is = trees_within text (length is) is

-- the first tree, where there is one
abbrev pub first_of : Trees → Tree
first_of none = atom 0 Numeral []
first_of (more t ts) = t

-- the tree that a list of items begins with
abbrev pub tree_in : List ℕ → List Item → Tree
tree_in text is = first_of (trees_in text is)

-- an item, and after a list's its items, whose number it has
abbrev mutual
  -- of a tree
  pub flat : Tree → List Item
  flat (atom at k bytes) = items.Atom k at (length bytes) ∷ []
  flat (list at ts end) = items.List at end (length (flat_all ts)) ∷ flat_all ts

  -- of trees, one after the other
  pub flat_all : Trees → List Item
  flat_all none = []
  flat_all (more t ts) = flat t ++ flat_all ts

-- a tree is in a text from an offset on, with nothing before it
abbrev pub IsFirstAt : List ℕ → ℕ → Tree → Type 0
IsFirstAt text at t = lexemes_from text at ≡ spelled t ++ drop (length (spelled t)) (lexemes_from text at)

-- the items are those of the one tree that they mean, and it is in the text from an offset on
abbrev pub AreRead : List ℕ → ℕ → List Item → Type 0
AreRead text at is = (is ≡ flat (tree_in text is)) × IsFirstAt text at (tree_in text is)
