-- The tree that its own items mean.
use Rattle.std.proofs.Common.{◌≡◌, ℕ, List, [], ◌∷◌, ◌++◌, length, take, drop, sym, ap, ◌∙◌, refl, subst, append_assoc, append-nil}
use Rattle.std.specs.Prelude.{⊤}
use Rattle.std.proofs.lemmas.List.{take_at, drop_at}
use Rattle.spec_text.specs.Lexemes.{Lexeme, closes, lexemes_from}
use Rattle.spec_text.specs.Trees.{Tree, Trees, atom, list, none, more, spelled, spelled_all}
use Rattle.smt_sexpr.specs.declared.items.Item.{Item}
use Rattle.smt_sexpr.specs.Means.{bytes_at, trees_in, flat, flat_all}
use Rattle.smt_sexpr.proofs.Flat.{trees_none, trees_atom, trees_list}
use Rattle.smt_sexpr.proofs.Words.{AreWordsOf, words_of_text}

-- the words of each tree are in the text
abbrev mutual
  IsIn : List ℕ → Tree → Type 0
  IsIn text (atom at k w) = w ≡ bytes_at text k at (length w)
  IsIn text (list at ts end) = AreIn text ts

  AreIn : List ℕ → Trees → Type 0
  AreIn text none = ⊤
  AreIn text (more t ts) = IsIn text t × AreIn text ts

mutual
  in_first : (text : List ℕ) (t : Tree) (rest : List (ℕ × Lexeme)) → AreWordsOf text (spelled t ++ rest) → IsIn text t × AreWordsOf text rest
  in_first text (atom at k w) rest h = h
  in_first text (list at ts end) rest h = in_all text ts ((end, closes) ∷ rest) (subst (AreWordsOf text) (append_assoc (spelled_all ts) ((end, closes) ∷ []) rest) h)

  in_all : (text : List ℕ) (ts : Trees) (rest : List (ℕ × Lexeme)) → AreWordsOf text (spelled_all ts ++ rest) → AreIn text ts × AreWordsOf text rest
  in_all text none rest h = (tt, h)
  in_all text (more t ts) rest h =
      let f = in_first text t (spelled_all ts ++ rest) (subst (AreWordsOf text) (append_assoc (spelled t) (spelled_all ts) rest) h) in
      let r = in_all text ts rest f.1 in
      ((f.0, r.0), r.1)

-- trees whose words are in the text are what their items mean
mutual
  back_first : (text : List ℕ) (t : Tree) (is : List Item) → IsIn text t → trees_in text (flat t ++ is) ≡ more t (trees_in text is)
  back_first text (atom at k w) is h = trees_atom text k at (length w) is ∙ ap (λ bs. more (atom at k bs) (trees_in text is)) (sym h)
  back_first text (list at us end) is h =
      let within : take (length (flat_all us)) (flat_all us ++ is) ≡ flat_all us = take_at (flat_all us) is (length (flat_all us)) refl in
      let rest : drop (length (flat_all us)) (flat_all us ++ is) ≡ is = drop_at (flat_all us) is (length (flat_all us)) refl in
      trees_list text at end (length (flat_all us)) (flat_all us ++ is)
      ∙ ap (λ xs. more (list at (trees_in text xs) end) (trees_in text (drop (length (flat_all us)) (flat_all us ++ is)))) within
      ∙ ap (λ xs. more (list at (trees_in text (flat_all us)) end) (trees_in text xs)) rest
      ∙ ap (λ ts. more (list at ts end) (trees_in text is)) (back text us h)

  back : (text : List ℕ) (ts : Trees) → AreIn text ts → trees_in text (flat_all ts) ≡ ts
  back text none h = trees_none text
  back text (more t ts) h = back_first text t (flat_all ts) h.0 ∙ ap (more t) (back text ts h.1)

-- a tree that comes first is what its items mean, whatever items follow
pub means_first : (text : List ℕ) (from : ℕ) (t : Tree) (rest : List (ℕ × Lexeme)) (is : List Item) → lexemes_from text from ≡ spelled t ++ rest → trees_in text (flat t ++ is) ≡ more t (trees_in text is)
means_first text from t rest is first = back_first text t is (in_first text t rest (subst (AreWordsOf text) first (words_of_text text from))).0

-- and where none do
pub means_tree : (text : List ℕ) (from : ℕ) (t : Tree) (rest : List (ℕ × Lexeme)) → lexemes_from text from ≡ spelled t ++ rest → trees_in text (flat t) ≡ more t none
means_tree text from t rest first = ap (trees_in text) (sym (append-nil (flat t))) ∙ means_first text from t rest [] first ∙ ap (more t) (trees_none text)
