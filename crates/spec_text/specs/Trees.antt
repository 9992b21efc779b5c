-- S-expressions as trees, and how they are spelled. Source: SMT-LIB 2.6, section 3.2.
use Rattle.std.specs.Prelude.{◌≡◌, ℕ, List, [], ◌∷◌, ◌++◌}
use Rattle.spec_text.specs.declared.Kind.{Kind}
use Rattle.spec_text.specs.Lexemes.{Lexeme, opens, closes, word, lexemes}

-- A tree and a row of trees: each holds the other.
mutual
  -- An atom by its offset, kind and bytes, or a list by the offsets of its parentheses and what is between them.
  pub data Tree : Type 0 where
    atom : ℕ → Kind → List ℕ → Tree
    list : ℕ → Trees → ℕ → Tree

  -- Trees, one after the other.
  pub data Trees : Type 0 where
    none : Trees
    more : Tree → Trees → Trees

-- the lexemes of trees, each with its offset
abbrev mutual
  -- of one tree
  pub spelled : Tree → List (ℕ × Lexeme)
  spelled (atom at k bytes) = (at, word k bytes) ∷ []
  spelled (list at ts end) = (at, opens) ∷ spelled_all ts ++ (end, closes) ∷ []

  -- of trees, one after the other
  pub spelled_all : Trees → List (ℕ × Lexeme)
  spelled_all none = []
  spelled_all (more t ts) = spelled t ++ spelled_all ts

-- the text is these trees, with nothing but white space and comments between them
abbrev pub IsRead : List ℕ → Trees → Type 0
IsRead text ts = lexemes 0 0 text ≡ spelled_all ts

-- the offset of a tree's first byte
abbrev pub offset_of : Tree → ℕ
offset_of (atom at k bytes) = at
offset_of (list at ts end) = at
