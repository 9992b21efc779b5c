-- Trees from lexemes, read from the last to the first.
use Rattle.std.proofs.Common.{◌≡◌, ℕ, zero, suc, List, [], ◌∷◌, ◌++◌, length, None, sym, ap, ◌∙◌, refl, append_assoc, append-nil, arith}
use Rattle.spec_text.specs.Lexemes.{Lexeme, blank, opens, closes, word, wrong}
use Rattle.spec_text.specs.Trees.{Tree, Trees, atom, list, none, more, spelled, spelled_all}
use Rattle.spec_text.specs.Faults.{first_fault}
use Rattle.spec_text.proofs.Blanks.{HasNoBlank}

-- trees, and after them the ends of lists that began before, each with the trees after it
pub record Behind : Type 0 where
  pub trees : Trees
  pub outer : List (ℕ × Trees)

abbrev pub opened : ℕ → Trees → List (ℕ × Trees) → Behind
opened at ts [] = record { trees = ts; outer = [] }
opened at ts ((end, us) ∷ rest) = record { trees = more (list at ts end) us; outer = rest }

abbrev pub add_lexeme : ℕ → Lexeme → Behind → Behind
add_lexeme at blank s = s
add_lexeme at opens s = opened at s.trees s.outer
add_lexeme at closes s = record { trees = none; outer = (at, s.trees) ∷ s.outer }
add_lexeme at (word k bytes) s = record { trees = more (atom at k bytes) s.trees; outer = s.outer }
add_lexeme at (wrong f) s = s

abbrev pub built : List (ℕ × Lexeme) → Behind
built [] = record { trees = none; outer = [] }
built ((at, x) ∷ xs) = add_lexeme at x (built xs)

-- how the ends of lists are spelled
abbrev pub spelled_outer : List (ℕ × Trees) → List (ℕ × Lexeme)
spelled_outer [] = []
spelled_outer ((end, ts) ∷ rest) = (end, closes) ∷ spelled_all ts ++ spelled_outer rest

-- the lexemes are those of what was built of them, with the ends of so many lists
pub record IsBuilt (n : ℕ) (xs : List (ℕ × Lexeme)) (s : Behind) : Type 0 where
  pub depth : length s.outer ≡ n
  pub text : xs ≡ spelled_all s.trees ++ spelled_outer s.outer

built_open : (n at : ℕ) (xs : List (ℕ × Lexeme)) (ts : Trees) (outer : List (ℕ × Trees)) → IsBuilt (suc n) xs record { trees = ts; outer = outer } → IsBuilt n ((at, opens) ∷ xs) (opened at ts outer)
built_open n at xs ts [] h = absurd (omega (arith, h.depth))
built_open n at xs ts ((end, us) ∷ rest) h = record {
  depth = omega (arith, h.depth);
  text = ap (λ (ys : List (ℕ × Lexeme)). (at, opens) ∷ ys) (h.text ∙ sym (append_assoc (spelled_all ts ++ (end, closes) ∷ []) (spelled_all us) (spelled_outer rest) ∙ append_assoc (spelled_all ts) ((end, closes) ∷ []) (spelled_all us ++ spelled_outer rest)));
}

pub without_fault : (end n : ℕ) (xs : List (ℕ × Lexeme)) → HasNoBlank xs → first_fault end n xs ≡ None → IsBuilt n xs (built xs)
unfolding first_fault
without_fault end zero [] h e = record { depth = refl; text = refl }
without_fault end (suc n) [] h e = cc
without_fault end n ((at, blank) ∷ xs) h e = absurd h
without_fault end n ((at, opens) ∷ xs) h e = built_open n at xs (built xs).trees (built xs).outer (without_fault end (suc n) xs h e)
without_fault end zero ((at, closes) ∷ xs) h e = cc
without_fault end (suc n) ((at, closes) ∷ xs) h e =
    let b = without_fault end n xs h e in
    record { depth = omega (arith, b.depth); text = ap (λ (ys : List (ℕ × Lexeme)). (at, closes) ∷ ys) b.text }
without_fault end n ((at, word k bytes) ∷ xs) h e =
    let b = without_fault end n xs h e in
    record { depth = b.depth; text = ap (λ (ys : List (ℕ × Lexeme)). (at, word k bytes) ∷ ys) b.text }
without_fault end n ((at, wrong f) ∷ xs) h e = cc

pub trees_without_fault : (end : ℕ) (xs : List (ℕ × Lexeme)) → HasNoBlank xs → first_fault end 0 xs ≡ None → (ts : Trees) × (xs ≡ spelled_all ts)
trees_without_fault end xs h e = go (built xs).trees (built xs).outer (without_fault end 0 xs h e)
  where
    go : (ts : Trees) (outer : List (ℕ × Trees)) → IsBuilt 0 xs record { trees = ts; outer = outer } → (us : Trees) × (xs ≡ spelled_all us)
    go ts [] b = (ts, b.text ∙ append-nil (spelled_all ts))
    go ts (r ∷ rest) b = absurd (omega (arith, b.depth))

-- trees have no fault
mutual
  unfolding first_fault

  pub passed : (end n : ℕ) (t : Tree) (xs : List (ℕ × Lexeme)) → first_fault end n (spelled t ++ xs) ≡ first_fault end n xs
  passed end n (atom at k bytes) xs = refl
  passed end n (list at ts close) xs =
      ap (first_fault end (suc n)) (append_assoc (spelled_all ts) ((close, closes) ∷ []) xs) ∙ passed_all end (suc n) ts ((close, closes) ∷ xs)

  pub passed_all : (end n : ℕ) (ts : Trees) (xs : List (ℕ × Lexeme)) → first_fault end n (spelled_all ts ++ xs) ≡ first_fault end n xs
  passed_all end n none xs = refl
  passed_all end n (more t ts) xs =
      ap (first_fault end n) (append_assoc (spelled t) (spelled_all ts) xs) ∙ passed end n t (spelled_all ts ++ xs) ∙ passed_all end n ts xs

pub no_fault_alone : (end : ℕ) (ts : Trees) → first_fault end 0 (spelled_all ts) ≡ None
unfolding first_fault
no_fault_alone end ts = ap (first_fault end 0) (sym (append-nil (spelled_all ts))) ∙ passed_all end 0 ts []
