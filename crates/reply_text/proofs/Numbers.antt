-- The texts of numbers, piece by piece.
use Rattle.std.proofs.Common.{◌≡◌, ℕ, true, false, cond, List, [], ◌∷◌, ◌++◌, ℤ, pos, refl, sym, ap, ◌∙◌, subst, append-nil, append_assoc, arith}
use Rattle.std.specs.Prelude.{codes, negsuc, unsigned_abs, nat_eq, nat_lt}
use Rattle.std.specs.Int.Signed.{lt_z}
use Rattle.std.proofs.lemmas.Bool.Decides.{nat_tests}
use Rattle.spec_text.specs.Bytes.{Name}
use Rattle.spec_text.specs.Printed.{printed, printed_symbol}
use Rattle.spec_text.specs.Trees.{Tree}
use Rattle.spec_numbers.specs.Fractions.{Fraction}
use Rattle.spec_models.specs.Values.{numeral, in_list, word_tree, numeral_tree, whole_tree, fraction_tree, element_tree}
use Rattle.world_io.specs.Writing.{SinkView}
use Rattle.world_io.proofs.Chains.{IsSending, start}

-- no number is below 0
none_below : (m : ℕ) → nat_lt m 0 ≡ true → ⊥
none_below m e = grind (arith, nat_tests)

-- a number below 0
negative : (n : ℤ) (k : ℕ) → lt_z n (pos 0) ≡ true → unsigned_abs n ≡ k → whole_tree n ≡ in_list (word_tree (codes "-") ∷ numeral_tree k ∷ [])
negative (pos m) k l e = absurd (none_below m l)
negative (negsuc m) k l e = ap (λ j. in_list (word_tree (codes "-") ∷ numeral_tree j ∷ [])) e

-- one that is not
pub whole : (n : ℤ) (k : ℕ) → lt_z n (pos 0) ≡ false → unsigned_abs n ≡ k → numeral k ≡ printed (whole_tree n)
whole (pos m) k l e = ap numeral (sym e)
whole (negsuc m) k l e = absurd (let no : true ≡ false = l in cc)

-- between other bytes, before its first piece
pub negative_start : (n : ℤ) (k : ℕ) (before after : List ℕ) (a : SinkView) → lt_z n (pos 0) ≡ true → unsigned_abs n ≡ k → IsSending (before ++ (printed (whole_tree n) ++ after)) (before ∷ (codes "(- " ++ (numeral k ++ codes ")")) ∷ after ∷ []) a a
negative_start n k before after a l e = start _ _ a (ap (λ y. before ++ ((codes "(- " ++ (numeral k ++ codes ")")) ++ y)) (append-nil after) ∙ ap (λ (t : Tree). before ++ (printed t ++ after)) (sym (negative n k l e)))

-- a fraction that is no whole number
quotient : (q : Fraction) → nat_eq q.den 1 ≡ false → fraction_tree q ≡ in_list (word_tree (codes "/") ∷ whole_tree q.num ∷ numeral_tree q.den ∷ [])
quotient q e = ap (λ b. cond b (whole_tree q.num) (in_list (word_tree (codes "/") ∷ whole_tree q.num ∷ numeral_tree q.den ∷ []))) e

quotient_by : (q : Fraction) (a : SinkView) → nat_eq q.den 1 ≡ false → IsSending (printed (fraction_tree q)) ((codes "(/ " ++ (printed (whole_tree q.num) ++ codes " ")) ∷ (numeral q.den ++ codes ")") ∷ []) a a
quotient_by q a e = start _ _ a (pieces (printed (whole_tree q.num)) (numeral q.den) ∙ ap printed (sym (quotient q e)))
  where
    pieces : (n d : List ℕ) → (codes "(/ " ++ (n ++ codes " ")) ++ ((d ++ codes ")") ++ []) ≡ 40 ∷ (codes "/ " ++ (n ++ 32 ∷ d)) ++ 41 ∷ []
    pieces n d = simp (append_assoc, append-nil) refl

-- a fraction that is a whole number
pub whole_text : (q : Fraction) (k : ℕ) → k ≡ q.den → k ≡ 1 → printed (whole_tree q.num) ++ [] ≡ printed (fraction_tree q)
whole_text q k d e = append-nil (printed (whole_tree q.num)) ∙ ap (λ b. printed (cond b (whole_tree q.num) (in_list (word_tree (codes "/") ∷ whole_tree q.num ∷ numeral_tree q.den ∷ [])))) (sym (is_one q.den (sym d ∙ e)))
  where
    is_one : (n : ℕ) → n ≡ 1 → nat_eq n 1 ≡ true
    is_one n e = ap (λ m. nat_eq m 1) e

-- before its first piece
pub quotient_start : (q : Fraction) (k : ℕ) (a : SinkView) → k ≡ q.den → (k ≡ 1 → ⊥) → IsSending (printed (fraction_tree q)) ((codes "(/ " ++ (printed (whole_tree q.num) ++ codes " ")) ∷ (numeral k ++ codes ")") ∷ []) a a
quotient_start q k a d other = subst (λ n. IsSending (printed (fraction_tree q)) ((codes "(/ " ++ (printed (whole_tree q.num) ++ codes " ")) ∷ (numeral n ++ codes ")") ∷ []) a a) (sym d) (quotient_by q a (apart q.den (λ e. other (d ∙ e))))
  where
    apart : (n : ℕ) → (n ≡ 1 → ⊥) → nat_eq n 1 ≡ false
    apart n other = grind (arith, nat_tests)

-- an element, before its first piece
pub element_start : (s : Name) (k : ℕ) (a : SinkView) → IsSending (printed (element_tree s k)) ((codes "(as @e" ++ (numeral k ++ codes " ")) ∷ printed_symbol s ∷ codes ")" ∷ []) a a
element_start s k a = start _ _ a (pieces (numeral k) (printed_symbol s))
  where
    pieces : (n t : List ℕ) → (codes "(as @e" ++ (n ++ codes " ")) ++ (t ++ codes ")") ≡ 40 ∷ (codes "as " ++ ((codes "@e" ++ n) ++ 32 ∷ t)) ++ 41 ∷ []
    pieces n t = simp (append_assoc) refl
