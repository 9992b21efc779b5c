-- How many bytes the words of trees have at the least.
use Rattle.std.proofs.Common.{◌≡◌, ℕ, zero, suc, ◌+◌, ◌-◌, List, [], ◌∷◌, ◌++◌, length, take, refl, ap, length-append, arith}
use Rattle.std.specs.Prelude.{◌≤◌}
use Rattle.std.proofs.lemmas.List.{length-take}
use Rattle.spec_text.specs.Lexemes.{Lexeme, blank, opens, closes, word, wrong, Piece, piece, first_piece, before, lexemes}
use Rattle.spec_text.specs.Lexicon.{Spells, IsFirst, numeral, decimal, string, simple_symbol, reserved_word, quoted_symbol, keyword}
use Rattle.spec_text.specs.Trees.{Tree, Trees, atom, list, none, more, spelled, spelled_all}
use Rattle.spec_text.specs.declared.Kind.{Kind}
use Rattle.spec_text.proofs.Longest.{first_is_longest}

-- the bytes of a word's own
abbrev pub weight_of : Lexeme → ℕ
weight_of (word k n) = length n
weight_of x = 0

-- those of lexemes
abbrev pub weights : List (ℕ × Lexeme) → ℕ
weights [] = 0
weights ((at, x) ∷ xs) = weight_of x + weights xs

-- a word has no more bytes of its own than it is spelled with
word_weight : (bs : List ℕ) (k : Kind) (n : List ℕ) → Spells bs (word k n) → length n ≤ length bs
word_weight _ _ _ (numeral ds h) = omega arith
word_weight _ _ _ (decimal ds f fs h run) = omega arith
word_weight _ _ _ (string bs inside) = omega (arith, length-append bs (34 ∷ []))
word_weight _ _ _ (simple_symbol b bs no_number run simple) = omega arith
word_weight _ _ _ (reserved_word bs reserved) = omega arith
word_weight _ _ _ (quoted_symbol bs run) = omega (arith, length-append bs (124 ∷ []))
word_weight _ _ _ (keyword b bs run) = omega arith

-- a lexeme and those after it
before_weight : (at b : ℕ) (bs : List ℕ) (p : Piece) (rest : List (ℕ × Lexeme)) → IsFirst (b ∷ bs) p.lexeme p.size → (p.size - 1 ≤ length bs → weights rest + (p.size - 1) ≤ length bs) → weights (before at p rest) ≤ suc (length bs)
before_weight at b bs p rest first h = go p.lexeme first
  where
    go : (x : Lexeme) → IsFirst (b ∷ bs) x p.size → weights (before at (piece x p.size) rest) ≤ suc (length bs)
    go blank f = omega (arith, h (omega (arith, f.begins.within)))
    go opens f = omega (arith, h (omega (arith, f.begins.within)))
    go closes f = omega (arith, h (omega (arith, f.begins.within)))
    go (word k w) f = omega (arith, h (omega (arith, f.begins.within)), word_weight (take p.size (b ∷ bs)) k w f.begins.spelled, length-take p.size (b ∷ bs), f.begins.within)
    go (wrong f) _ = omega arith

-- the words of a text have no more bytes than it
pub lexemes_weight : (n at : ℕ) (bs : List ℕ) → n ≤ length bs → weights (lexemes n at bs) + n ≤ length bs
unfolding lexemes
lexemes_weight n at [] le = omega (arith, le)
lexemes_weight (suc n) at (b ∷ bs) le = omega (arith, lexemes_weight n (at + 1) bs (omega (arith, le)))
lexemes_weight zero at (b ∷ bs) le =
    omega (arith, before_weight at b bs (first_piece b bs) (lexemes ((first_piece b bs).size - 1) (at + 1) bs) (first_is_longest b bs) (lexemes_weight ((first_piece b bs).size - 1) (at + 1) bs))

weights_append : (xs ys : List (ℕ × Lexeme)) → weights (xs ++ ys) ≡ weights xs + weights ys
weights_append [] ys = omega arith
weights_append (x ∷ xs) ys = omega (arith, weights_append xs ys)

-- the words of a tree, and of trees
abbrev mutual
  pub weight : Tree → ℕ
  weight (atom at k n) = length n
  weight (list at ts end) = weight_all ts

  pub weight_all : Trees → ℕ
  weight_all none = 0
  weight_all (more t ts) = weight t + weight_all ts

mutual
  pub spelled_weight : (t : Tree) → weights (spelled t) ≡ weight t
  spelled_weight (atom at k n) = omega arith
  spelled_weight (list at ts end) = omega (arith, weights_append (spelled_all ts) ((end, closes) ∷ []), spelled_all_weight ts)

  pub spelled_all_weight : (ts : Trees) → weights (spelled_all ts) ≡ weight_all ts
  spelled_all_weight none = refl
  spelled_all_weight (more t ts) = omega (arith, weights_append (spelled t) (spelled_all ts), spelled_weight t, spelled_all_weight ts)

-- trees at the beginning of a text
pub front_weight : (bs : List ℕ) (ts : Trees) (rest : List (ℕ × Lexeme)) → lexemes 0 0 bs ≡ spelled_all ts ++ rest → weight_all ts ≤ length bs
front_weight bs ts rest e = omega (arith, lexemes_weight 0 0 bs (omega arith), ap weights e, weights_append (spelled_all ts) rest, spelled_all_weight ts)
