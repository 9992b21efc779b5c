-- Tests of bytes, and runs of bytes that pass one.
use Rattle.std.proofs.Common.{◌≡◌, ℕ, Bool, true, false, cond, List, [], ◌∷◌, ◌++◌, length, drop, sym, ap, ◌∙◌, refl, arith, suc}
use Rattle.std.specs.Prelude.{◌==◌, ◌&&◌, ◌||◌, not, codes}
use Rattle.std.specs.Str.{bytes_eq}
use Rattle.std.proofs.lemmas.Bool.{and_parts, not-true}
use Rattle.std.proofs.lemmas.Bool.Decides.{nat_tests}
use Rattle.std.proofs.lemmas.Slice.Eq.{bytes_eq-Decides}
use Rattle.spec_text.specs.Bytes.{Name, one_of, is_blank, is_digit, is_letter, is_symbol_byte, is_in_bars, front, among, reserved_words}
use Rattle.spec_text.specs.Printed.{all_pass}
use Rattle.spec_text.specs.Lexicon.{Consists, BeginsWithout}

-- a byte that differs from another in a test is another byte
pub other_byte : (test : ℕ → Bool) (b c : ℕ) → test b ≡ true → test c ≡ false → (b == c) ≡ false
other_byte test b c t f = go (b == c) (λ e. grind (arith, nat_tests))
  where
    go : (r : Bool) → (r ≡ true → b ≡ c) → r ≡ false
    go true e = absurd (let same : test b ≡ test c = ap test (e refl) in cc)
    go false e = refl

pub another_byte : (test : ℕ → Bool) (b c : ℕ) → test b ≡ false → test c ≡ true → (b == c) ≡ false
another_byte test b c f t = go (b == c) (λ e. grind (arith, nat_tests))
  where
    go : (r : Bool) → (r ≡ true → b ≡ c) → r ≡ false
    go true e = absurd (let same : test b ≡ test c = ap test (e refl) in cc)
    go false e = refl

pub not_blank : (test : ℕ → Bool) (b : ℕ) → test b ≡ true → test 9 ≡ false → test 10 ≡ false → test 13 ≡ false → test 32 ≡ false → is_blank b ≡ false
not_blank test b t tab feed return space = grind (arith, nat_tests, other_byte test b 9 t tab, other_byte test b 10 t feed, other_byte test b 13 t return, other_byte test b 32 t space)

pub no_digit : (b : ℕ) → is_symbol_byte b ≡ false → is_digit b ≡ false
no_digit b f = go (is_digit b) (is_letter b) (one_of (codes "~!@$%^&*_-+=<>.?/") b) f
  where
    go : (t u v : Bool) → (t || u || v) ≡ false → t ≡ false
    go true u v e = cc
    go false u v e = refl

pub front_of_run : (test : ℕ → Bool) (bs rest : List ℕ) → Consists test bs → front test (bs ++ rest) ≡ bs ++ front test rest
front_of_run test [] rest h = refl
front_of_run test (b ∷ bs) rest h = rw h.0 (ap (λ (xs : List ℕ). b ∷ xs) (front_of_run test bs rest h.1))

pub no_front : (test : ℕ → Bool) (rest : List ℕ) → BeginsWithout test rest → front test rest ≡ []
no_front test [] h = refl
no_front test (b ∷ bs) h = rw h refl

-- digits up to a point, and those after it
pub before_point : (xs ys : List ℕ) → Consists is_digit xs → front is_digit (xs ++ 46 ∷ ys) ≡ xs
before_point [] ys h = refl
before_point (x ∷ xs) ys h = rw h.0 (ap (λ (zs : List ℕ). x ∷ zs) (before_point xs ys h.1))

pub after_point : (xs ys : List ℕ) → drop (suc (length xs)) (xs ++ 46 ∷ ys) ≡ ys
after_point [] ys = refl
after_point (x ∷ xs) ys = after_point xs ys

pub front_is_run : (test : ℕ → Bool) (bs : List ℕ) → Consists test (front test bs)
front_is_run test [] = tt
front_is_run test (b ∷ bs) = go (test b) refl (front_is_run test bs)
  where
    go : (t : Bool) → test b ≡ t → Consists test (front test bs) → Consists test (cond t (b ∷ front test bs) [])
    go true e h = (e, h)
    go false e h = tt

pub front_then_rest : (test : ℕ → Bool) (bs : List ℕ) → bs ≡ front test bs ++ drop (length (front test bs)) bs
front_then_rest test [] = refl
front_then_rest test (b ∷ bs) = go (test b) (front_then_rest test bs)
  where
    go : (t : Bool) → bs ≡ front test bs ++ drop (length (front test bs)) bs → b ∷ bs ≡ cond t (b ∷ front test bs) [] ++ drop (length (cond t (b ∷ front test bs) [])) (b ∷ bs)
    go true h = ap (λ (xs : List ℕ). b ∷ xs) h
    go false h = refl

-- bytes of symbols may be between bars
pub symbol_byte_in_bars : (b : ℕ) → is_symbol_byte b ≡ true → is_in_bars b ≡ true
symbol_byte_in_bars b h = rw (other_byte is_symbol_byte b 124 h refl, other_byte is_symbol_byte b 92 h refl) refl

pub symbol_bytes_in_bars : (bs : List ℕ) → Consists is_symbol_byte bs → Consists is_in_bars bs
symbol_bytes_in_bars [] h = tt
symbol_bytes_in_bars (b ∷ bs) h = (symbol_byte_in_bars b h.0, symbol_bytes_in_bars bs h.1)

-- what a symbol without bars looks like
abbrev is_symbolic : Name → Bool
is_symbolic [] = false
is_symbolic (b ∷ bs) = not (is_digit b) && all_pass is_symbol_byte (b ∷ bs)

abbrev are_symbolic : List Name → Bool
are_symbolic [] = true
are_symbolic (m ∷ ms) = is_symbolic m && are_symbolic ms

among_symbolic : (ms : List Name) (n : Name) → are_symbolic ms ≡ true → among ms n ≡ true → is_symbolic n ≡ true
among_symbolic [] n a e = cc
among_symbolic (m ∷ ms) n a e =
    let parts = and_parts (is_symbolic m) (are_symbolic ms) a in
    go (bytes_eq m n) (bytes_eq-Decides m n).0 parts.0 (among_symbolic ms n parts.1) e
  where
    go : (t : Bool) → (t ≡ true → m ≡ n) → is_symbolic m ≡ true → (among ms n ≡ true → is_symbolic n ≡ true) → (t || among ms n) ≡ true → is_symbolic n ≡ true
    go true same s f k = ap is_symbolic (sym (same refl)) ∙ s
    go false same s f k = f k

pub passes_consists : (test : ℕ → Bool) (bs : List ℕ) → all_pass test bs ≡ true → Consists test bs
passes_consists test [] e = tt
passes_consists test (b ∷ bs) e =
    let parts = and_parts (test b) (all_pass test bs) e in
    (parts.0, passes_consists test bs parts.1)

-- a byte of symbols that is no digit, and bytes of symbols after it
pub record IsSymbolic (b : ℕ) (bs : List ℕ) : Type 0 where
  pub no_number : is_digit b ≡ false
  pub run : Consists is_symbol_byte (b ∷ bs)

abbrev pub IsSymbolicName : Name → Type 0
IsSymbolicName [] = ⊥
IsSymbolicName (b ∷ bs) = IsSymbolic b bs

pub reserved_is_symbolic : (n : Name) → among reserved_words n ≡ true → IsSymbolicName n
reserved_is_symbolic n e = go n (among_symbolic reserved_words n refl e)
  where
    go : (n : Name) → is_symbolic n ≡ true → IsSymbolicName n
    go [] k = cc
    go (b ∷ bs) k =
        let parts = and_parts (not (is_digit b)) (all_pass is_symbol_byte (b ∷ bs)) k in
        record { no_number = not-true (is_digit b) parts.0; run = passes_consists is_symbol_byte (b ∷ bs) parts.1 }
