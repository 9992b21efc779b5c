-- The lexemes after a tree are those from its end on.
use Rattle.std.proofs.Common.{◌≡◌, ◌<◌, ◌≤◌, ℕ, zero, suc, ◌+◌, ◌-◌, List, [], ◌∷◌, ◌++◌, length, take, drop, refl, sym, ap, ◌∙◌, arith, append_assoc, length-append, length-take-le, length-drop}
use Rattle.std.proofs.lemmas.List.{drop-drop}
use Rattle.spec_text.specs.declared.Kind.{Kind}
use Rattle.spec_text.specs.Lexemes.{Lexeme, blank, opens, closes, word, wrong, piece, first_piece, before, lexemes, lexemes_from}
use Rattle.spec_text.specs.Lexicon.{Spells, open_parenthesis, close_parenthesis, numeral, decimal, string, simple_symbol, reserved_word, quoted_symbol, keyword, IsFirst}
use Rattle.spec_text.specs.Trees.{Tree, Trees, atom, list, none, more, spelled, spelled_all}
use Rattle.spec_text.proofs.Longest.{first_is_longest}
use Rattle.spec_text.proofs.Printing.{lexemes_skip}
use Rattle.spec_text.proofs.Reading.{heads}
use Rattle.spec_text.proofs.Tests.{reserved_is_symbolic}
use Rattle.stream_scan.proofs.Pieces.{numeral_some}
use Rattle.stream_scan.specs.Next.{word_size, end_of}

-- how many bytes a lexeme has
abbrev size_of : Lexeme → ℕ
size_of (word k w) = word_size k w
size_of _ = 1

spelled_size : (bytes : List ℕ) (k : Kind) (w : List ℕ) → Spells bytes (word k w) → length bytes ≡ word_size k w
spelled_size _ _ _ (numeral ds n) = refl
spelled_size _ _ _ (decimal ds f fs n run) = refl
spelled_size _ _ _ (string bs inside) = omega (arith, length-append bs (34 ∷ []))
spelled_size _ _ _ (simple_symbol b bs n run r) = refl
spelled_size _ _ _ (reserved_word bs r) = refl
spelled_size _ _ _ (quoted_symbol bs run) = omega (arith, length-append bs (124 ∷ []))
spelled_size _ _ _ (keyword b bs run) = omega arith

spelled_some : (bytes : List ℕ) (k : Kind) (w : List ℕ) → Spells bytes (word k w) → 0 < length bytes
spelled_some _ _ _ (numeral ds n) = numeral_some ds n
spelled_some _ _ _ (decimal ds f fs n run) = omega (arith, length-append ds (46 ∷ f ∷ fs))
spelled_some _ _ _ (string bs inside) = omega arith
spelled_some _ _ _ (simple_symbol b bs n run r) = omega arith
spelled_some _ _ _ (reserved_word [] r) = absurd (reserved_is_symbolic [] r)
spelled_some _ _ _ (reserved_word (b ∷ bs) r) = omega arith
spelled_some _ _ _ (quoted_symbol bs run) = omega arith
spelled_some _ _ _ (keyword b bs run) = omega arith

opens_size : (bytes : List ℕ) → Spells bytes opens → length bytes ≡ 1
opens_size _ open_parenthesis = refl

closes_size : (bytes : List ℕ) → Spells bytes closes → length bytes ≡ 1
closes_size _ close_parenthesis = refl

-- what comes after the first lexeme of bytes that stand at an offset
record Rest (at : ℕ) (bs : List ℕ) (p : ℕ) (x : Lexeme) (ys : List (ℕ × Lexeme)) : Type 0 where
  passed : ℕ
  place : p ≡ at + passed
  within : passed + size_of x ≤ length bs
  rest : ys ≡ lexemes 0 (p + size_of x) (drop (passed + size_of x) bs)

one_byte_later : (at b : ℕ) (bs : List ℕ) (p : ℕ) (x : Lexeme) (ys : List (ℕ × Lexeme)) → Rest (at + 1) bs p x ys → Rest at (b ∷ bs) p x ys
one_byte_later at b bs p x ys h = record {
  passed = h.passed + 1;
  place = omega (arith, h.place);
  within = omega (arith, h.within);
  rest = h.rest ∙ ap (λ (cs : List ℕ). lexemes 0 (p + size_of x) cs) (ap (λ n. drop n (b ∷ bs)) (let e : suc (h.passed + size_of x) ≡ h.passed + 1 + size_of x = omega arith in e));
}

-- it is a fault, or has the size that it is spelled with
abbrev HasSize : List ℕ → Lexeme → ℕ → Type 0
HasSize bytes (wrong f) n = Unit {0}
HasSize bytes blank n = Unit {0}
HasSize bytes x n = (n ≡ size_of x) × (n ≤ length bytes) × (0 < n)

first_size : (b : ℕ) (bs : List ℕ) (x : Lexeme) (n : ℕ) → IsFirst (b ∷ bs) x n → HasSize (b ∷ bs) x n
first_size b bs (wrong f) n h = tt
first_size b bs blank n h = tt
first_size b bs opens n h = let e : n ≡ 1 = sym (length-take-le n (b ∷ bs) h.begins.within) ∙ opens_size _ h.begins.spelled in (e, h.begins.within, omega (arith, e))
first_size b bs closes n h = let e : n ≡ 1 = sym (length-take-le n (b ∷ bs) h.begins.within) ∙ closes_size _ h.begins.spelled in (e, h.begins.within, omega (arith, e))
first_size b bs (word k w) n h =
    let l : length (take n (b ∷ bs)) ≡ n = length-take-le n (b ∷ bs) h.begins.within in
    (sym l ∙ spelled_size _ k w h.begins.spelled, h.begins.within, omega (arith, l, spelled_some _ k w h.begins.spelled))

-- not a fault
abbrev IsNoFault : Lexeme → Type 0
IsNoFault (wrong f) = ⊥
IsNoFault _ = Unit {0}

first_lexeme : (at b : ℕ) (bs : List ℕ) (y : Lexeme) (n : ℕ) (p : ℕ) (x : Lexeme) (ys : List (ℕ × Lexeme)) → (at ≡ p) × (y ≡ x) × (lexemes (n - 1) (at + 1) bs ≡ ys) → (n ≡ size_of y) × (n ≤ length (b ∷ bs)) × (0 < n) → Rest at (b ∷ bs) p x ys
first_lexeme at b bs y n p x ys h size =
    let some : 0 < n = size.2 in
    let same : n ≡ size_of x = size.0 ∙ ap size_of h.1 in
    record {
      passed = 0;
      place = omega (arith, h.0);
      within = omega (arith, size.1, same);
      rest = sym h.2 ∙ lexemes_skip (n - 1) (at + 1) bs ∙ ap (λ k. lexemes 0 k (drop (n - 1) bs)) (omega (arith, h.0, same, some)) ∙ ap (lexemes 0 (p + size_of x)) (drop-drop (n - 1) 1 (b ∷ bs) ∙ ap (λ k. drop k (b ∷ bs)) (omega (arith, same, some)));
    }

-- where the first byte begins a lexeme, or none
lexeme_after_first : (at b : ℕ) (bs : List ℕ) (y : Lexeme) (n : ℕ) (p : ℕ) (x : Lexeme) (ys : List (ℕ × Lexeme)) → IsNoFault x → HasSize (b ∷ bs) y n → before at (piece y n) (lexemes (n - 1) (at + 1) bs) ≡ (p, x) ∷ ys
    → ((m : ℕ) → lexemes m (at + 1) bs ≡ (p, x) ∷ ys → Rest (at + 1) bs p x ys) → Rest at (b ∷ bs) p x ys
lexeme_after_first at b bs blank n p x ys good size e rec = one_byte_later at b bs p x ys (rec (n - 1) e)
lexeme_after_first at b bs (wrong f) n p (wrong g) ys good size e rec = absurd good
lexeme_after_first at b bs (wrong f) n p (word k w) ys good size e rec = absurd (let w = (heads e).1 in cc)
lexeme_after_first at b bs (wrong f) n p opens ys good size e rec = absurd (let w = (heads e).1 in cc)
lexeme_after_first at b bs (wrong f) n p closes ys good size e rec = absurd (let w = (heads e).1 in cc)
lexeme_after_first at b bs (wrong f) n p blank ys good size e rec = absurd (let w = (heads e).1 in cc)
lexeme_after_first at b bs opens n p x ys good size e rec = first_lexeme at b bs opens n p x ys (heads e) size
lexeme_after_first at b bs closes n p x ys good size e rec = first_lexeme at b bs closes n p x ys (heads e) size
lexeme_after_first at b bs (word k w) n p x ys good size e rec = first_lexeme at b bs (word k w) n p x ys (heads e) size

lexeme_after : (bs : List ℕ) (m at p : ℕ) (x : Lexeme) (ys : List (ℕ × Lexeme)) → IsNoFault x → lexemes m at bs ≡ (p, x) ∷ ys → Rest at bs p x ys
unfolding lexemes
lexeme_after [] m at p x ys good e = cc
lexeme_after (b ∷ bs) (suc m) at p x ys good e = one_byte_later at b bs p x ys (lexeme_after bs m (at + 1) p x ys good e)
lexeme_after (b ∷ bs) zero at p x ys good e = lexeme_after_first at b bs (first_piece b bs).lexeme (first_piece b bs).size p x ys good (first_size b bs (first_piece b bs).lexeme (first_piece b bs).size (first_is_longest b bs)) e (λ m. lexeme_after bs m (at + 1) p x ys good)

-- what comes after a lexeme, or a tree, that ends at this offset of a text
record Ends (text : List ℕ) (end : ℕ) (ys : List (ℕ × Lexeme)) : Type 0 where
  within : end ≤ length text
  rest : ys ≡ lexemes_from text end

lexeme_ends : (text : List ℕ) (at p : ℕ) (x : Lexeme) (ys : List (ℕ × Lexeme)) → at ≤ length text → IsNoFault x → lexemes_from text at ≡ (p, x) ∷ ys → Ends text (p + size_of x) ys
lexeme_ends text at p x ys le good e =
    let h = lexeme_after (drop at text) 0 at p x ys good e in
    record {
      within = omega (arith, h.within, h.place, length-drop at text, le);
      rest = h.rest ∙ ap (lexemes 0 (p + size_of x)) (drop-drop (h.passed + size_of x) at text ∙ ap (λ n. drop n text) (omega (arith, h.place)));
    }

mutual
  -- after a tree of a text
  tree_ends : (text : List ℕ) (at : ℕ) (t : Tree) (ys : List (ℕ × Lexeme)) → at ≤ length text → lexemes_from text at ≡ spelled t ++ ys → Ends text (end_of t) ys
  tree_ends text at (atom p k w) ys le e = lexeme_ends text at p (word k w) ys le tt e
  tree_ends text at (list p ts end) ys le e =
      let first = lexeme_ends text at p opens ((spelled_all ts ++ (end, closes) ∷ []) ++ ys) le tt e in
      inside_ends text (p + 1) ts end ys first.within (sym first.rest ∙ append_assoc (spelled_all ts) ((end, closes) ∷ []) ys)

  inside_ends : (text : List ℕ) (at : ℕ) (ts : Trees) (end : ℕ) (ys : List (ℕ × Lexeme)) → at ≤ length text → lexemes_from text at ≡ spelled_all ts ++ (end, closes) ∷ ys → Ends text (end + 1) ys
  inside_ends text at none end ys le e = lexeme_ends text at end closes ys le tt e
  inside_ends text at (more t ts) end ys le e =
      let first = tree_ends text at t (spelled_all ts ++ (end, closes) ∷ ys) le (e ∙ append_assoc (spelled t) (spelled_all ts) ((end, closes) ∷ ys)) in
      inside_ends text (end_of t) ts end ys first.within (sym first.rest)

pub tree_end : (text : List ℕ) (at : ℕ) (t : Tree) (ys : List (ℕ × Lexeme)) → at ≤ length text → lexemes_from text at ≡ spelled t ++ ys → (end_of t ≤ length text) × (ys ≡ lexemes_from text (end_of t))
tree_end text at t ys le e = let h = tree_ends text at t ys le e in (h.within, h.rest)
