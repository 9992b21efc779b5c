-- The words of a text are spelled as the table says.
use Rattle.std.proofs.Common.{◌≡◌, ℕ, zero, suc, ◌+◌, ◌-◌, List, [], ◌∷◌, ◌++◌, take, subst, append_assoc}
use Rattle.std.specs.Prelude.{⊤}
use Rattle.spec_text.specs.declared.Kind.{Kind}
use Rattle.spec_text.specs.Lexemes.{Lexeme, blank, opens, closes, word, wrong, Piece, piece, first_piece, before, lexemes, lexemes_from}
use Rattle.spec_text.specs.Lexicon.{Spells, IsFirst}
use Rattle.spec_text.specs.Trees.{Tree, Trees, atom, list, none, more, spelled, spelled_all}
use Rattle.spec_text.proofs.Longest.{first_is_longest}

-- some bytes are this word
abbrev pub IsWord : Kind → List ℕ → Type 0
IsWord k w = (bs : List ℕ) × Spells bs (word k w)

abbrev pub AreWords : List (ℕ × Lexeme) → Type 0
AreWords [] = ⊤
AreWords ((at, word k w) ∷ xs) = IsWord k w × AreWords xs
AreWords ((at, _) ∷ xs) = AreWords xs

words_before : (at b : ℕ) (bs : List ℕ) (p : Piece) (rest : List (ℕ × Lexeme)) → IsFirst (b ∷ bs) p.lexeme p.size → AreWords rest → AreWords (before at p rest)
words_before at b bs p rest first h = go p.lexeme first
  where
    go : (x : Lexeme) → IsFirst (b ∷ bs) x p.size → AreWords (before at (piece x p.size) rest)
    go blank f = h
    go opens f = h
    go closes f = h
    go (word k w) f = ((take p.size (b ∷ bs), f.begins.spelled), h)
    go (wrong f) _ = tt

pub words_all : (n at : ℕ) (bs : List ℕ) → AreWords (lexemes n at bs)
unfolding lexemes
words_all n at [] = tt
words_all (suc n) at (b ∷ bs) = words_all n (at + 1) bs
words_all zero at (b ∷ bs) = words_before at b bs (first_piece b bs) (lexemes ((first_piece b bs).size - 1) (at + 1) bs) (first_is_longest b bs) (words_all ((first_piece b bs).size - 1) (at + 1) bs)

-- the words of trees
abbrev mutual
  pub HasWords : Tree → Type 0
  HasWords (atom at k w) = IsWord k w
  HasWords (list at ts end) = HaveWords ts

  pub HaveWords : Trees → Type 0
  HaveWords none = ⊤
  HaveWords (more t ts) = HasWords t × HaveWords ts

mutual
  words_first : (t : Tree) (rest : List (ℕ × Lexeme)) → AreWords (spelled t ++ rest) → HasWords t × AreWords rest
  words_first (atom at k w) rest h = h
  words_first (list at ts end) rest h = words_rest ts ((end, closes) ∷ rest) (subst AreWords (append_assoc (spelled_all ts) ((end, closes) ∷ []) rest) h)

  pub words_rest : (ts : Trees) (rest : List (ℕ × Lexeme)) → AreWords (spelled_all ts ++ rest) → HaveWords ts × AreWords rest
  words_rest none rest h = (tt, h)
  words_rest (more t ts) rest h =
      let f = words_first t (spelled_all ts ++ rest) (subst AreWords (append_assoc (spelled t) (spelled_all ts) rest) h) in
      let r = words_rest ts rest f.1 in
      ((f.0, r.0), r.1)

-- of a tree that is in a text
pub words_of_tree : (text : List ℕ) (at : ℕ) (t : Tree) (rest : List (ℕ × Lexeme)) → lexemes_from text at ≡ spelled t ++ rest → HasWords t
words_of_tree text at t rest e = (words_first t rest (subst AreWords e (words_all 0 at _))).0
