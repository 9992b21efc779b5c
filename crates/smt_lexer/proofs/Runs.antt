-- The longest prefix whose bytes pass a test.
use Rattle.std.proofs.Common.{◌≡◌, ◌<◌, ◌≤◌, ℕ, suc, Bool, true, false, cond, List, [], ◌∷◌, length, take, refl, sym, ap, ◌∙◌, arith}
use Rattle.std.specs.Prelude.{◌&&◌, not}
use Rattle.spec_text.specs.Bytes.{Name, is_digit, is_symbol_byte, front, among, reserved_words}
use Rattle.spec_text.specs.Printed.{all_pass, is_bare}

-- as many bytes as the prefix has are the prefix
pub front_is_taken : (test : ℕ → Bool) (bs : List ℕ) → take (length (front test bs)) bs ≡ front test bs
front_is_taken test [] = refl
front_is_taken test (b ∷ bs) = go (test b) (front_is_taken test bs)
  where
    go : (t : Bool) → take (length (front test bs)) bs ≡ front test bs → take (length (cond t (b ∷ front test bs) [])) (b ∷ bs) ≡ cond t (b ∷ front test bs) []
    go true h = ap (λ (xs : List ℕ). b ∷ xs) h
    go false h = refl

-- where the prefix is the whole, all bytes pass
front_whole : (test : ℕ → Bool) (bs : List ℕ) → length bs ≤ length (front test bs) → all_pass test bs ≡ true
front_whole test [] h = refl
front_whole test (b ∷ bs) h = go (test b) h (front_whole test bs)
  where
    go : (t : Bool) → suc (length bs) ≤ length (cond t (b ∷ front test bs) []) → (length bs ≤ length (front test bs) → all_pass test bs ≡ true) → (t && all_pass test bs) ≡ true
    go true h f = f (omega arith)
    go false h f = absurd (omega arith)

-- where it is shorter, one does not
front_shorter : (test : ℕ → Bool) (bs : List ℕ) → length (front test bs) < length bs → all_pass test bs ≡ false
front_shorter test [] h = absurd (omega arith)
front_shorter test (b ∷ bs) h = go (test b) h (front_shorter test bs)
  where
    go : (t : Bool) → length (cond t (b ∷ front test bs) []) < suc (length bs) → (length (front test bs) < length bs → all_pass test bs ≡ false) → (t && all_pass test bs) ≡ false
    go true h f = f (omega arith)
    go false h f = refl

module _ (name rest : Name) (b : ℕ) (is : name ≡ b ∷ rest) (no_number : is_digit b ≡ false) where
  bare_by : (p : Bool) → all_pass is_symbol_byte (b ∷ rest) ≡ p → is_bare name ≡ p && not (among reserved_words name)
  bare_by p e = ap is_bare is ∙ (λ i. not (no_number i) && e i && not (among reserved_words (b ∷ rest))) ∙ ap (λ n. p && not (among reserved_words n)) (sym is)

  pub bare_shorter : length (front is_symbol_byte name) < length name → false ≡ is_bare name
  bare_shorter h = sym (bare_by false (front_shorter is_symbol_byte (b ∷ rest) (rw is at h)))

  pub bare_whole : length name ≤ length (front is_symbol_byte name) → not (among reserved_words name) ≡ is_bare name
  bare_whole h = sym (bare_by true (front_whole is_symbol_byte (b ∷ rest) (rw is at h)))
