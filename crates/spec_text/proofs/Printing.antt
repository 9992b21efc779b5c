-- What is printed of a tree is read back.
use Rattle.std.proofs.Common.{◌≡◌, ℕ, zero, suc, ◌+◌, ◌-◌, ◌<◌, Bool, true, false, cond, List, [], ◌∷◌, ◌++◌, length, drop, sym, ap, ◌∙◌, refl, append_assoc, append-nil, add-zero, length-append, arith}
use Rattle.std.specs.Prelude.{◌==◌, not, ⊤}
use Rattle.std.proofs.lemmas.Bool.{not-true}
use Rattle.std.proofs.lemmas.List.{drop_at}
use Rattle.spec_text.specs.declared.Kind.{Kind}
use Rattle.spec_text.specs.declared.Kind.TheVariants.{Numeral, Decimal, Text, Simple, Quoted, Reserved, Keyword}
use Rattle.spec_text.specs.Bytes.{Name, is_digit, is_symbol_byte, among, reserved_words}
use Rattle.spec_text.specs.Lexemes.{opens, closes, word, Piece, piece, first_piece, before, lexemes}
use Rattle.spec_text.specs.Lexicon.{only_zero, digits, numeral, decimal, string, simple_symbol, reserved_word, quoted_symbol, keyword, BeginsWithout}
use Rattle.spec_text.specs.Trees.{Tree, Trees, atom, list, none, more, spelled, spelled_all, IsRead}
use Rattle.spec_text.specs.Printed.{all_pass, is_bare, printed_word, printed, printed_all, without_bars, SameTree, SameTrees}
use Rattle.spec_text.proofs.General.{three_parts}
use Rattle.spec_text.proofs.Tests.{no_front, passes_consists, IsSymbolic, reserved_is_symbolic}
use Rattle.spec_text.proofs.Spelling.{piece_of, numeral_piece, number_piece, point_piece, string_piece, quoted_piece, symbol_piece, keyword_piece, no_digits}
use Rattle.spec_text.proofs.Words.{IsWord, HasWords, HaveWords}

-- bytes that are passed over
pub lexemes_skip : (n at : ℕ) (bs : List ℕ) → lexemes n at bs ≡ lexemes 0 (at + n) (drop n bs)
unfolding lexemes
lexemes_skip zero at bs = ap (λ k. lexemes 0 k bs) (sym (add-zero at))
lexemes_skip (suc n) at [] = refl
lexemes_skip (suc n) at (b ∷ bs) = lexemes_skip n (at + 1) bs ∙ ap (λ k. lexemes 0 k (drop n bs)) (omega arith)

-- what may come after a word: nothing, a space, or the end of a list
abbrev pub Ends : List ℕ → Type 0
Ends [] = ⊤
Ends (b ∷ bs) = (is_symbol_byte b ≡ false) × ((b == 34) ≡ false)

ends_word : (rest : List ℕ) → Ends rest → BeginsWithout is_symbol_byte rest
ends_word [] h = tt
ends_word (b ∷ bs) h = h.0

ends_string : (rest : List ℕ) → Ends rest → BeginsWithout (λ b. b == 34) rest
ends_string [] h = tt
ends_string (b ∷ bs) h = h.1

-- what a word is once it is printed
abbrev pub kind_of : Kind → List ℕ → Kind
kind_of Quoted w = cond (is_bare w) Simple Quoted
kind_of k w = k

-- these bytes are read as a word
abbrev ReadsAs : List ℕ → List ℕ → Kind → List ℕ → Type 0
ReadsAs bytes rest k w = piece_of (bytes ++ rest) ≡ piece (word k w) (length bytes)

module _ (rest : List ℕ) (h : Ends rest) where
  symbol_read : (b : ℕ) (bs : List ℕ) (t : Bool) → IsSymbolic b bs → among reserved_words (b ∷ bs) ≡ t → ReadsAs (b ∷ bs) rest (cond t Reserved Simple) (b ∷ bs)
  symbol_read b bs t s e =
      let none_more : bs ++ _ ≡ bs = ap (λ ys. bs ++ ys) (no_front is_symbol_byte rest (ends_word rest h)) ∙ append-nil bs in
      symbol_piece b bs rest s ∙ rw (none_more, e) refl

  bare_read : (w : Name) → is_bare w ≡ true → ReadsAs w rest Simple w
  bare_read [] e = cc
  bare_read (b ∷ bs) e =
      let p = three_parts (not (is_digit b)) (all_pass is_symbol_byte (b ∷ bs)) (not (among reserved_words (b ∷ bs))) e in
      symbol_read b bs false (record { no_number = not-true (is_digit b) p.0; run = passes_consists is_symbol_byte (b ∷ bs) p.1 }) (not-true (among reserved_words (b ∷ bs)) p.2)

  word_read : (k : Kind) (w : List ℕ) → IsWord k w → ReadsAs (printed_word k w) rest (kind_of k w) w
  word_read _ _ (_, numeral ds n) = numeral_piece ds n rest (no_digits rest (ends_word rest h)) ∙ number_piece ds rest (ends_word rest h)
  word_read _ _ (_, decimal ds f fs n run) = ap piece_of (append_assoc ds (46 ∷ f ∷ fs) rest) ∙ numeral_piece ds n (46 ∷ f ∷ fs ++ rest) refl ∙ point_piece ds f fs rest run (ends_word rest h)
  word_read _ _ (_, string bs inside) = string_piece bs rest inside (ends_string rest h) ∙ ap (piece (word Text bs)) (omega (arith, length-append bs (34 ∷ [])))
  word_read _ _ (_, simple_symbol b bs no_number run simple) = symbol_read b bs false (record { no_number = no_number; run = run }) simple
  word_read _ _ (_, reserved_word [] reserved) = absurd (reserved_is_symbolic [] reserved)
  word_read _ _ (_, reserved_word (b ∷ bs) reserved) = symbol_read b bs true (reserved_is_symbolic (b ∷ bs) reserved) reserved
  word_read _ _ (_, quoted_symbol bs run) = go (is_bare bs) refl
    where
      go : (t : Bool) → is_bare bs ≡ t → ReadsAs (cond t bs (124 ∷ bs ++ 124 ∷ [])) rest (cond t Simple Quoted) bs
      go true e = bare_read bs e
      go false e = quoted_piece bs rest run ∙ ap (piece (word Quoted bs)) (omega (arith, length-append bs (124 ∷ [])))
  word_read _ _ (_, keyword b bs run) =
      let none_more : b ∷ bs ++ _ ≡ b ∷ bs = ap (λ ys. b ∷ bs ++ ys) (no_front is_symbol_byte rest (ends_word rest h)) ∙ ap (λ ys. b ∷ ys) (append-nil bs) in
      keyword_piece b bs rest run ∙ ap (λ ys. piece (word Keyword ys) (length ys + 1)) none_more ∙ ap (piece (word Keyword (b ∷ bs))) (omega arith)

-- bytes that are one word, before others
one_word : (at : ℕ) (xs rest : List ℕ) (k : Kind) (w : List ℕ) → ReadsAs xs rest k w → 0 < length xs → lexemes 0 at (xs ++ rest) ≡ (at, word k w) ∷ lexemes 0 (at + length xs) rest
unfolding lexemes
one_word at [] rest k w e some = absurd (omega arith)
one_word at (b ∷ xs) rest k w e some =
    ap (λ (p : Piece). before at p (lexemes (p.size - 1) (at + 1) (xs ++ rest))) e
    ∙ ap (λ ys. (at, word k w) ∷ ys) (ap (λ n. lexemes n (at + 1) (xs ++ rest)) (omega arith) ∙ lexemes_skip (length xs) (at + 1) (xs ++ rest) ∙ ap (λ ys. lexemes 0 (at + 1 + length xs) ys) (drop_at xs rest (length xs) refl) ∙ ap (λ n. lexemes 0 n rest) (omega arith))

pub open_read : (at : ℕ) (rest : List ℕ) → lexemes 0 at (40 ∷ rest) ≡ (at, opens) ∷ lexemes 0 (at + 1) rest
unfolding lexemes first_piece
open_read at rest = refl

pub close_read : (at : ℕ) (rest : List ℕ) → lexemes 0 at (41 ∷ rest) ≡ (at, closes) ∷ lexemes 0 (at + 1) rest
unfolding lexemes first_piece
close_read at rest = refl

-- white space between words is passed over
pub space_read : (at : ℕ) (rest : List ℕ) → lexemes 0 at (32 ∷ rest) ≡ lexemes 0 (at + 1) rest
unfolding lexemes first_piece
space_read at rest = refl

pub feed_read : (at : ℕ) (rest : List ℕ) → lexemes 0 at (10 ∷ rest) ≡ lexemes 0 (at + 1) rest
unfolding lexemes first_piece
feed_read at rest = refl

-- a word has a byte
some_bytes : (k : Kind) (w : List ℕ) → IsWord k w → 0 < length (printed_word k w)
some_bytes _ _ (_, numeral _ only_zero) = omega arith
some_bytes _ _ (_, numeral _ (digits d ds some run)) = omega arith
some_bytes _ _ (_, decimal ds f fs n run) = omega (arith, length-append ds (46 ∷ f ∷ fs))
some_bytes _ _ (_, string bs inside) = omega arith
some_bytes _ _ (_, simple_symbol b bs no_number run simple) = omega arith
some_bytes _ _ (_, reserved_word [] reserved) = absurd (reserved_is_symbolic [] reserved)
some_bytes _ _ (_, reserved_word (b ∷ bs) reserved) = omega arith
some_bytes _ _ (_, quoted_symbol [] run) = omega arith
some_bytes _ _ (_, quoted_symbol (b ∷ bs) run) = go (is_bare (b ∷ bs))
  where
    go : (t : Bool) → 0 < length (cond t (b ∷ bs) (124 ∷ (b ∷ bs) ++ 124 ∷ []))
    go true = omega arith
    go false = omega arith
some_bytes _ _ (_, keyword b bs run) = omega arith

-- the tree as it is read from an offset on
abbrev mutual
  pub moved : ℕ → Tree → Tree
  moved at (atom from k w) = atom at (kind_of k w) w
  moved at (list from ts end) = list at (moved_all (at + 1) ts) (at + 1 + length (printed_all ts))

  pub moved_all : ℕ → Trees → Trees
  moved_all at none = none
  moved_all at (more t ts) = more (moved at t) (moved_all (at + length (printed t) + 1) ts)

-- a tree is read from what is printed of it, whatever may come after
abbrev pub IsReadAt : Tree → Type 0
IsReadAt t = (at : ℕ) (rest : List ℕ) → Ends rest → lexemes 0 at (printed t ++ rest) ≡ spelled (moved at t) ++ lexemes 0 (at + length (printed t)) rest

-- trees are, before the end of their list
abbrev pub AreReadAt : Trees → Type 0
AreReadAt ts = (at : ℕ) (rest : List ℕ) → lexemes 0 at (printed_all ts ++ 41 ∷ rest) ≡ spelled_all (moved_all at ts) ++ lexemes 0 (at + length (printed_all ts)) (41 ∷ rest)

one_more : (t : Tree) (ts : Trees) → IsReadAt t → AreReadAt ts → AreReadAt (more t ts)
one_more t none first others at rest =
    first at (41 ∷ rest) (refl, refl) ∙ ap (λ ys. ys ++ lexemes 0 (at + length (printed t)) (41 ∷ rest)) (sym (append-nil (spelled (moved at t))))
one_more t (more u us) first others at rest =
    let behind = printed_all (more u us) ++ 41 ∷ rest in
    let size : at + length (printed t) + 1 + length (printed_all (more u us)) ≡ at + length (printed t ++ 32 ∷ printed_all (more u us)) = omega (arith, length-append (printed t) (32 ∷ printed_all (more u us))) in
    ap (lexemes 0 at) (append_assoc (printed t) (32 ∷ printed_all (more u us)) (41 ∷ rest))
    ∙ first at (32 ∷ behind) (refl, refl)
    ∙ ap (λ ys. spelled (moved at t) ++ ys) (space_read (at + length (printed t)) behind ∙ others (at + length (printed t) + 1) rest ∙ ap (λ n. spelled_all (moved_all (at + length (printed t) + 1) (more u us)) ++ lexemes 0 n (41 ∷ rest)) size)
    ∙ sym (append_assoc (spelled (moved at t)) (spelled_all (moved_all (at + length (printed t) + 1) (more u us))) (lexemes 0 (at + length (printed t ++ 32 ∷ printed_all (more u us))) (41 ∷ rest)))

mutual
  pub tree_read : (t : Tree) → HasWords t → IsReadAt t
  tree_read (atom from k w) h at rest ends = one_word at (printed_word k w) rest (kind_of k w) w (word_read rest ends k w h) (some_bytes k w h)
  tree_read (list from ts end) h at rest ends =
      let n = at + 1 + length (printed_all ts) in
      let size : n + 1 ≡ at + length (40 ∷ printed_all ts ++ 41 ∷ []) = omega (arith, length-append (printed_all ts) (41 ∷ [])) in
      open_read at ((printed_all ts ++ 41 ∷ []) ++ rest)
      ∙ ap (λ ys. (at, opens) ∷ lexemes 0 (at + 1) ys) (append_assoc (printed_all ts) (41 ∷ []) rest)
      ∙ ap (λ ys. (at, opens) ∷ ys) (trees_read ts h (at + 1) rest ∙ ap (λ ys. spelled_all (moved_all (at + 1) ts) ++ ys) (close_read n rest ∙ ap (λ m. (n, closes) ∷ lexemes 0 m rest) size) ∙ sym (append_assoc (spelled_all (moved_all (at + 1) ts)) ((n, closes) ∷ []) (lexemes 0 (at + length (40 ∷ printed_all ts ++ 41 ∷ [])) rest)))

  trees_read : (ts : Trees) → HaveWords ts → AreReadAt ts
  trees_read none h at rest = ap (λ n. lexemes 0 n (41 ∷ rest)) (omega arith)
  trees_read (more t ts) h at rest = one_more t ts (tree_read t h.0) (trees_read ts h.1) at rest

same_kind : (k : Kind) (w : List ℕ) → without_bars k ≡ without_bars (kind_of k w)
same_kind Numeral w = refl
same_kind Decimal w = refl
same_kind Text w = refl
same_kind Simple w = refl
same_kind Quoted w = go (is_bare w)
  where
    go : (t : Bool) → Simple ≡ without_bars (cond t Simple Quoted)
    go true = refl
    go false = refl
same_kind Reserved w = refl
same_kind Keyword w = refl

mutual
  pub same_moved : (at : ℕ) (t : Tree) → SameTree t (moved at t)
  same_moved at (atom from k w) = (same_kind k w, refl)
  same_moved at (list from ts end) = all_moved (at + 1) ts

  pub all_moved : (at : ℕ) (ts : Trees) → SameTrees ts (moved_all at ts)
  all_moved at none = tt
  all_moved at (more t ts) = (same_moved at t, all_moved (at + length (printed t) + 1) ts)

pub printed_reads : (t : Tree) → HasWords t → IsRead (printed t) (more (moved 0 t) none)
unfolding lexemes
printed_reads t h = ap (lexemes 0 0) (sym (append-nil (printed t))) ∙ tree_read t h 0 [] tt
