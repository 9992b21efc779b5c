-- The trees of texts that are written out, for examples.
use Rattle.std.specs.Prelude.{ℕ, List, [], ◌∷◌}
use Rattle.spec_text.specs.Lexemes.{Lexeme, opens, closes, word, lexemes}
use Rattle.spec_text.specs.Trees.{Trees, atom, list, none, more}

-- The trees after a lexeme up to the end of its list, and after the closing parentheses of the lists around it.
pub record Built : Type 0 where
  -- the trees after it in its own list
  pub here : Trees
  -- of each list around it the closing parenthesis, with the trees after that
  pub around : List (ℕ × Trees)

-- a list of the trees before its closing parenthesis
abbrev pub with_list : ℕ → Trees → List (ℕ × Trees) → Built
with_list at us [] = record { here = none; around = [] }
with_list at us ((end, ts) ∷ rest) = record { here = more (list at us end) ts; around = rest }

-- a lexeme before what comes after it
abbrev pub with_lexeme : ℕ → Lexeme → Built → Built
with_lexeme at (word k bytes) b = record { here = more (atom at k bytes) b.here; around = b.around }
with_lexeme at closes b = record { here = none; around = (at, b.here) ∷ b.around }
with_lexeme at opens b = with_list at b.here b.around
with_lexeme at _ b = b

-- lexemes, from the last one to the first
unfoldable pub built : List (ℕ × Lexeme) → Built
built [] = record { here = none; around = [] }
built ((at, x) ∷ xs) = with_lexeme at x (built xs)

-- the trees of a text without a lexical fault
abbrev pub trees_in : List ℕ → Trees
trees_in text = (built (lexemes 0 0 text)).here
