-- Rows of trees before lexemes, and what comes after them.
use Rattle.std.proofs.Common.{◌≡◌, ℕ, List, ◌++◌, length, refl, sym, ap, ◌∙◌, append_assoc}
use Rattle.spec_text.specs.declared.Place.{Place}
use Rattle.spec_text.specs.Lexemes.{Lexeme, lexemes_from}
use Rattle.spec_text.specs.Trees.{Tree, Trees, none, more, spelled, spelled_all, offset_of}
use Rattle.spec_text.specs.Readings.{AreTrees}
use Rattle.smt_sexpr.specs.declared.sexpr.Sexpr.{Sexpr}
use Rattle.smt_sexpr.specs.Items.{tree_of}
use Rattle.smt_sexpr.specs.Reads.{ReadsSexpr}
use Rattle.spec_proofs.specs.Texts.{EndsBehind, left_over}

-- no tree comes first
pub nothing_first : (xs : List (ℕ × Lexeme)) → AreTrees xs none xs
nothing_first xs = refl

-- one tree, and then others
pub one_first : (xs ys rest : List (ℕ × Lexeme)) (t : Tree) (us : Trees) → xs ≡ spelled t ++ ys → AreTrees ys us rest → AreTrees xs (more t us) rest
one_first xs ys rest t us e h = e ∙ ap (λ zs. spelled t ++ zs) h ∙ sym (append_assoc (spelled t) (spelled_all us) rest)

module _ (text : List ℕ) (from : Place) (s : Sexpr) (after : Place) (r : ReadsSexpr text from s after) where
  -- what was read, and then others
  pub read_first : (us : Trees) (rest : List (ℕ × Lexeme)) → AreTrees (lexemes_from text after.offset) us rest → AreTrees (lexemes_from text from.offset) (more (tree_of s) us) rest
  read_first us rest h = one_first _ _ rest (tree_of s) us r.is.first h

-- a tree after all commands
pub left_behind : (text : List ℕ) (from : Place) (s : Sexpr) (after : Place) (at : ℕ) → ReadsSexpr text from s after → at ≡ offset_of (tree_of s) → EndsBehind (length text) (lexemes_from text from.offset) (left_over at)
left_behind text from s after at r e = (tree_of s, lexemes_from text after.offset, read_first text from s after r none (lexemes_from text after.offset) (nothing_first (lexemes_from text after.offset)), sym e)
