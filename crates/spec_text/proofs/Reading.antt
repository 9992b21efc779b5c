-- What the lexemes of a text say of its trees: at most one reading.
use Rattle.std.proofs.Common.{◌≡◌, ℕ, List, [], ◌∷◌, ◌++◌, refl, sym, ap, ◌∙◌, append_assoc}
use Rattle.spec_text.specs.Lexemes.{Lexeme, closes}
use Rattle.spec_text.specs.Trees.{Tree, Trees, atom, list, none, more, spelled, spelled_all}

-- equal lists begin alike
pub heads : {a b : ℕ} {x y : Lexeme} {xs ys : List (ℕ × Lexeme)} → (a, x) ∷ xs ≡ (b, y) ∷ ys → (a ≡ b) × (x ≡ y) × (xs ≡ ys)
heads {a} {b} {x} {y} {xs} {ys} e =
    let p : (let z : ℕ × Lexeme = (a, x) in z) ≡ (b, y) = cc in
    (ap (λ (z : ℕ × Lexeme). z.0) p, ap (λ (z : ℕ × Lexeme). z.1) p, cc)

mutual
  -- trees whose lexemes come first in one list are one
  pub same_first : (t u : Tree) (xs ys : List (ℕ × Lexeme)) → spelled t ++ xs ≡ spelled u ++ ys → (t ≡ u) × (xs ≡ ys)
  same_first (atom at k bytes) (atom at' k' bytes') xs ys e =
      let h = heads e in
      let kind : k ≡ k' = let w = h.1 in cc in
      let same : bytes ≡ bytes' = let w = h.1 in cc in
      (ap (λ a. atom a k bytes) h.0 ∙ ap (λ x. atom at' x bytes) kind ∙ ap (atom at' k') same, h.2)
  same_first (atom at k bytes) (list at' us end') xs ys e = let w = (heads e).1 in cc
  same_first (list at ts end) (atom at' k' bytes') xs ys e = let w = (heads e).1 in cc
  same_first (list at ts end) (list at' us end') xs ys e =
      let h = heads e in
      let inner : spelled_all ts ++ (end, closes) ∷ xs ≡ spelled_all us ++ (end', closes) ∷ ys = sym (append_assoc (spelled_all ts) ((end, closes) ∷ []) xs) ∙ h.2 ∙ append_assoc (spelled_all us) ((end', closes) ∷ []) ys in
      let s = same_inside ts us end end' xs ys inner in
      (ap (λ a. list a ts end) h.0 ∙ ap (λ x. list at' x end) s.0 ∙ ap (list at' us) s.1, s.2)

  pub same_inside : (ts us : Trees) (end end' : ℕ) (xs ys : List (ℕ × Lexeme)) → spelled_all ts ++ (end, closes) ∷ xs ≡ spelled_all us ++ (end', closes) ∷ ys → (ts ≡ us) × (end ≡ end') × (xs ≡ ys)
  same_inside none none end end' xs ys e = let h = heads e in (refl, h.0, h.2)
  same_inside none (more (atom a k b) us) end end' xs ys e = let w = (heads e).1 in cc
  same_inside none (more (list a vs f) us) end end' xs ys e = let w = (heads e).1 in cc
  same_inside (more (atom a k b) ts) none end end' xs ys e = let w = (heads e).1 in cc
  same_inside (more (list a vs f) ts) none end end' xs ys e = let w = (heads e).1 in cc
  same_inside (more t ts) (more u us) end end' xs ys e =
      let s = same_first t u (spelled_all ts ++ (end, closes) ∷ xs) (spelled_all us ++ (end', closes) ∷ ys) (sym (append_assoc (spelled t) (spelled_all ts) ((end, closes) ∷ xs)) ∙ e ∙ append_assoc (spelled u) (spelled_all us) ((end', closes) ∷ ys)) in
      let r = same_inside ts us end end' xs ys s.1 in
      (ap (λ x. more x ts) s.0 ∙ ap (more u) r.0, r.1, r.2)

-- trees with the same lexemes are the same
pub same_trees : (ts us : Trees) → spelled_all ts ≡ spelled_all us → ts ≡ us
same_trees ts us e = (same_inside ts us 0 0 [] [] (ap (λ xs. xs ++ (0, closes) ∷ []) e)).0

-- of trees whose lexemes begin with those of a tree, it is the first
pub first_tree : (t : Tree) (us : Trees) (rest : List (ℕ × Lexeme)) → spelled_all us ≡ spelled t ++ rest → (vs : Trees) × (us ≡ more t vs) × (spelled_all vs ≡ rest)
first_tree (atom a k b) none rest e = cc
first_tree (list a ts f) none rest e = cc
first_tree t (more u us) rest e =
    let s = same_first u t (spelled_all us) rest e in
    (us, ap (λ x. more x us) s.0, s.1)

-- no lexemes, no trees
pub no_trees : (us : Trees) → spelled_all us ≡ [] → us ≡ none
no_trees none e = refl
no_trees (more (atom a k b) us) e = cc
no_trees (more (list a ts f) us) e = cc
