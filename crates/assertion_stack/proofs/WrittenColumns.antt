-- How assertions are written, as it is held in columns.
use Rattle.std.proofs.Common.{◌≡◌, ◌<◌, ℕ, zero, suc, List, [], ◌∷◌, ◌++◌, length, take, get_or, Option, Some, None, refl, sym, ap, ◌∙◌, arith}
use Rattle.assertion_stack.specs.Assertions.{Written, no_written, written_in, label_row, row_label, AreColumns}

-- a label is held as what it is
pub row_labelled : (l : Option (List ℕ)) → row_label (label_row l) ≡ l
row_labelled None = refl
row_labelled (Some name) = refl

-- one for each
pub written_long : (n : ℕ) (ts : List (List ℕ)) (ps : List ℕ) (ls : List (List ℕ)) → AreColumns n ts ps ls → length (written_in ts ps ls) ≡ n
written_long n ts ps ls h = go ts ps ls (h.texts_long ∙ sym h.places_long) (h.texts_long ∙ sym h.labels_long) ∙ h.texts_long
  where
    go : (ts : List (List ℕ)) (ps : List ℕ) (ls : List (List ℕ)) → length ts ≡ length ps → length ts ≡ length ls → length (written_in ts ps ls) ≡ length ts
    go [] ps ls a b = refl
    go (t ∷ ts) [] ls a b = absurd (omega (arith, a))
    go (t ∷ ts) (p ∷ ps) [] a b = absurd (omega (arith, b))
    go (t ∷ ts) (p ∷ ps) (l ∷ ls) a b = omega (arith, go ts ps ls (omega (arith, a)) (omega (arith, b)))

-- the one of a place
pub written_at : (ts : List (List ℕ)) (ps : List ℕ) (ls : List (List ℕ)) (k d : ℕ) → k < length ts → k < length ps → k < length ls
    → get_or (written_in ts ps ls) k no_written ≡ record { text = get_or ts k []; at = get_or ps k d; label = row_label (get_or ls k []) }
written_at [] ps ls k d a b c = absurd (omega (arith, a))
written_at (t ∷ ts) [] ls k d a b c = absurd (omega (arith, b))
written_at (t ∷ ts) (p ∷ ps) [] k d a b c = absurd (omega (arith, c))
written_at (t ∷ ts) (p ∷ ps) (l ∷ ls) zero d a b c = refl
written_at (t ∷ ts) (p ∷ ps) (l ∷ ls) (suc k) d a b c = written_at ts ps ls k d (omega (arith, a)) (omega (arith, b)) (omega (arith, c))

-- one more
pub written_more : (ts : List (List ℕ)) (ps : List ℕ) (ls : List (List ℕ)) → length ts ≡ length ps → length ts ≡ length ls → (t : List ℕ) (p : ℕ) (l : Option (List ℕ))
    → written_in (ts ++ t ∷ []) (ps ++ p ∷ []) (ls ++ label_row l ∷ []) ≡ written_in ts ps ls ++ record { text = t; at = p; label = l } ∷ []
written_more [] [] [] a b t p l = ap (λ o. record { text = t; at = p; label = o } ∷ []) (row_labelled l)
written_more [] [] (m ∷ ls) a b t p l = absurd (omega (arith, b))
written_more [] (q ∷ ps) ls a b t p l = absurd (omega (arith, a))
written_more (u ∷ ts) [] ls a b t p l = absurd (omega (arith, a))
written_more (u ∷ ts) (q ∷ ps) [] a b t p l = absurd (omega (arith, b))
written_more (u ∷ ts) (q ∷ ps) (m ∷ ls) a b t p l =
    ap (λ (ws : List Written). record { text = u; at = q; label = row_label m } ∷ ws) (written_more ts ps ls (omega (arith, a)) (omega (arith, b)) t p l)

-- the first ones
pub written_cut : (ts : List (List ℕ)) (ps : List ℕ) (ls : List (List ℕ)) (k : ℕ) → written_in (take k ts) (take k ps) (take k ls) ≡ take k (written_in ts ps ls)
written_cut ts ps ls zero = refl
written_cut [] ps ls (suc k) = refl
written_cut (t ∷ ts) [] ls (suc k) = refl
written_cut (t ∷ ts) (p ∷ ps) [] (suc k) = refl
written_cut (t ∷ ts) (p ∷ ps) (l ∷ ls) (suc k) = ap (λ (ws : List Written). record { text = t; at = p; label = row_label l } ∷ ws) (written_cut ts ps ls k)
