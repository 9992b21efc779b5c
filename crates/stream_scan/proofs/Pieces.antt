-- What bytes begin with: a token, whole or not, and then another byte.
use Rattle.std.proofs.Common.{◌≡◌, ◌≢◌, ◌<◌, ℕ, ◌+◌, ◌-◌, Bool, true, false, List, [], ◌∷◌, ◌++◌, length, refl, ap, ◌∙◌, arith, append-nil}
use Rattle.std.specs.Prelude.{◌==◌, ◌||◌, not}
use Rattle.std.proofs.lemmas.List.{drop_at}
use Rattle.spec_text.specs.declared.Kind.TheVariants.{Decimal, Keyword}
use Rattle.spec_text.specs.declared.Fault.{Fault}
use Rattle.spec_text.specs.declared.Fault.TheVariants.{BadChar}
use Rattle.spec_text.specs.Bytes.{is_blank, is_in_comment, is_digit, is_symbol_byte, is_in_bars, front}
use Rattle.spec_text.specs.Lexemes.{blank, opens, closes, word, wrong, Piece, piece, ended, number, symbol, first_piece, before, lexemes}
use Rattle.spec_text.specs.Lexicon.{Consists, IsNumeral, only_zero, digits, IsInside, empty, byte, pair}
use Rattle.spec_text.proofs.Tests.{front_of_run, no_front, IsSymbolic}
use Rattle.spec_text.proofs.Spelling.{piece_of, numeral_piece, symbol_piece, keyword_piece}
use Rattle.spec_text.proofs.Printing.{lexemes_skip, open_read, close_read}

-- bytes that are one piece, before others
pub after_piece : (at : ℕ) (w rest : List ℕ) (p : Piece) → piece_of (w ++ rest) ≡ p → p.size ≡ length w → 0 < length w → lexemes 0 at (w ++ rest) ≡ before at p (lexemes 0 (at + length w) rest)
unfolding lexemes
after_piece at [] rest p e size some = absurd (omega arith)
after_piece at (b ∷ xs) rest p e size some =
    ap (λ (q : Piece). before at q (lexemes (q.size - 1) (at + 1) (xs ++ rest))) e
    ∙ ap (before at p) (ap (λ n. lexemes n (at + 1) (xs ++ rest)) (omega (arith, size)) ∙ lexemes_skip (length xs) (at + 1) (xs ++ rest) ∙ ap (λ ys. lexemes 0 (at + 1 + length xs) ys) (drop_at xs rest (length xs) refl) ∙ ap (λ n. lexemes 0 n rest) (omega arith))

-- bytes that begin with a fault
pub fault_piece : (at : ℕ) (w : List ℕ) (n : ℕ) (f : Fault) → piece_of w ≡ piece (wrong f) n → 0 < length w → lexemes 0 at w ≡ (at + n, wrong f) ∷ []
unfolding lexemes
fault_piece at [] n f e some = absurd (omega arith)
fault_piece at (b ∷ xs) n f e some = ap (λ (q : Piece). before at q (lexemes (q.size - 1) (at + 1) xs)) e

-- one byte more in a run
pub consists_more : (test : ℕ → Bool) (bs : List ℕ) (b : ℕ) → Consists test bs → test b ≡ true → Consists test (bs ++ b ∷ [])
consists_more test [] b h t = (t, tt)
consists_more test (x ∷ bs) b h t = (h.0, consists_more test bs b h.1 t)

-- a run up to a byte that is none of it
run_up_to : (test : ℕ → Bool) (bs : List ℕ) (b : ℕ) (rest : List ℕ) → Consists test bs → test b ≡ false → front test (bs ++ b ∷ rest) ≡ bs
run_up_to test bs b rest h f = front_of_run test bs (b ∷ rest) h ∙ ap (λ (xs : List ℕ). bs ++ xs) (no_front test (b ∷ rest) f) ∙ append-nil bs

-- one byte, or two quotes, more in a string
pub inside_more : (bs : List ℕ) (b : ℕ) → IsInside bs → b ≢ 34 → IsInside (bs ++ b ∷ [])
inside_more _ b empty other = byte b [] other empty
inside_more _ b (byte c bs some h) other = byte c (bs ++ b ∷ []) some (inside_more bs b h other)
inside_more _ b (pair bs h) other = pair (bs ++ b ∷ []) (inside_more bs b h other)

pub inside_pair : (bs : List ℕ) → IsInside bs → IsInside (bs ++ 34 ∷ 34 ∷ [])
inside_pair _ empty = pair [] empty
inside_pair _ (byte c bs some h) = byte c (bs ++ 34 ∷ 34 ∷ []) some (inside_pair bs h)
inside_pair _ (pair bs h) = pair (bs ++ 34 ∷ 34 ∷ []) (inside_pair bs h)

-- a numeral has a byte
pub numeral_some : (ds : List ℕ) → IsNumeral ds → 0 < length ds
numeral_some _ only_zero = omega arith
numeral_some _ (digits d ds some run) = omega arith

-- a symbol up to a byte that is none of it, and a keyword
pub symbol_ends : (b : ℕ) (bs : List ℕ) (c : ℕ) (rest : List ℕ) → IsSymbolic b bs → is_symbol_byte c ≡ false → first_piece b (bs ++ c ∷ rest) ≡ symbol (b ∷ bs)
symbol_ends b bs c rest h f = symbol_piece b bs (c ∷ rest) h ∙ ap (λ (xs : List ℕ). symbol (b ∷ bs ++ xs)) (no_front is_symbol_byte (c ∷ rest) f) ∙ ap (λ (xs : List ℕ). symbol (b ∷ xs)) (append-nil bs)

pub keyword_ends : (b : ℕ) (bs : List ℕ) (c : ℕ) (rest : List ℕ) → Consists is_symbol_byte (b ∷ bs) → is_symbol_byte c ≡ false → first_piece 58 (b ∷ bs ++ c ∷ rest) ≡ piece (word Keyword (b ∷ bs)) (length (b ∷ bs) + 1)
keyword_ends b bs c rest h f = keyword_piece b bs (c ∷ rest) h ∙ ap (λ (xs : List ℕ). piece (word Keyword (b ∷ xs)) (length (b ∷ xs) + 1)) (ap (λ (xs : List ℕ). bs ++ xs) (no_front is_symbol_byte (c ∷ rest) f) ∙ append-nil bs)

-- digits, a point and a byte that is no digit
pub point_alone : (ds : List ℕ) (c : ℕ) (rest : List ℕ) → IsNumeral ds → is_digit c ≡ false → piece_of (ds ++ 46 ∷ c ∷ rest) ≡ piece (wrong BadChar) (length ds)
point_alone ds c rest n f = numeral_piece ds n (46 ∷ c ∷ rest) refl ∙ rw f refl

-- a decimal up to a byte that is no digit
pub decimal_ended : (ds : List ℕ) (f : ℕ) (fs : List ℕ) (c : ℕ) (rest : List ℕ) → IsNumeral ds → Consists is_digit (f ∷ fs) → is_digit c ≡ false → piece_of (ds ++ (46 ∷ f ∷ fs ++ c ∷ rest)) ≡ ended (c ∷ rest) (length ds + 1 + length (f ∷ fs)) (word Decimal (ds ++ 46 ∷ f ∷ fs))
decimal_ended ds f fs c rest n run none =
    let here : front is_digit (f ∷ fs ++ c ∷ rest) ≡ f ∷ fs = run_up_to is_digit (f ∷ fs) c rest run none in
    numeral_piece ds n (46 ∷ f ∷ fs ++ c ∷ rest) refl ∙ rw (here, drop_at (f ∷ fs) (c ∷ rest) (length (f ∷ fs)) refl) refl

-- a quoted symbol up to a byte that may not stand in it and is no bar
pub quoted_wrong : (bs : List ℕ) (c : ℕ) (rest : List ℕ) → Consists is_in_bars bs → is_in_bars c ≡ false → (c == 124) ≡ false → first_piece 124 (bs ++ c ∷ rest) ≡ piece (wrong BadChar) (length bs + 1)
unfolding first_piece
quoted_wrong bs c rest run none bar =
    let here : front is_in_bars (bs ++ c ∷ rest) ≡ bs = run_up_to is_in_bars bs c rest run none in
    rw (here, drop_at bs (c ∷ rest) (length bs) refl, bar) refl

-- a comment up to its end
pub comment_ends : (bs : List ℕ) (c : ℕ) (rest : List ℕ) → Consists is_in_comment bs → is_in_comment c ≡ false → first_piece 59 (bs ++ c ∷ rest) ≡ piece blank (1 + length bs)
unfolding first_piece
comment_ends bs c rest run none = ap (λ (xs : List ℕ). piece blank (1 + length xs)) (run_up_to is_in_comment bs c rest run none)

-- the end of a comment is white space
pub blank_after_comment : (c : ℕ) → is_in_comment c ≡ false → is_blank c ≡ true
blank_after_comment c h = go (c == 10) (c == 13) (c == 9) (c == 32) h
  where
    go : (x y z u : Bool) → not (x || (y || false)) ≡ false → (z || (x || (y || (u || false)))) ≡ true
    go true y true u e = refl
    go true y false u e = refl
    go false true true u e = refl
    go false true false u e = refl
    go false false z u e = cc

-- white space is passed over
pub blank_passed : (at b : ℕ) (rest : List ℕ) → is_blank b ≡ true → lexemes 0 at (b ∷ rest) ≡ lexemes 0 (at + 1) rest
unfolding lexemes first_piece
blank_passed at b rest t = rw t refl

-- a byte that begins no token
pub wrong_byte : (at b : ℕ) (rest : List ℕ) → is_blank b ≡ false → (b == 59) ≡ false → (b == 40) ≡ false → (b == 41) ≡ false → (b == 48) ≡ false → is_digit b ≡ false → (b == 34) ≡ false → (b == 124) ≡ false → (b == 58) ≡ false → is_symbol_byte b ≡ false → lexemes 0 at (b ∷ rest) ≡ (at, wrong BadChar) ∷ []
unfolding lexemes first_piece
wrong_byte at b rest a1 a2 a3 a4 a5 a6 a7 a8 a9 a10 = rw (a10, a1, a2, a3, a4, a5, a6, a7, a8, a9) (ap (λ n. (n, wrong BadChar) ∷ []) (omega arith))

-- parentheses
pub opens_here : (at b : ℕ) (rest : List ℕ) → b ≡ 40 → lexemes 0 at (b ∷ rest) ≡ (at, opens) ∷ lexemes 0 (at + 1) rest
opens_here at b rest e = ap (λ c. lexemes 0 at (c ∷ rest)) e ∙ open_read at rest

pub closes_here : (at b : ℕ) (rest : List ℕ) → b ≡ 41 → lexemes 0 at (b ∷ rest) ≡ (at, closes) ∷ lexemes 0 (at + 1) rest
closes_here at b rest e = ap (λ c. lexemes 0 at (c ∷ rest)) e ∙ close_read at rest

-- a zero, and a colon alone
pub zero_piece : (b : ℕ) (rest : List ℕ) → first_piece 48 (b ∷ rest) ≡ number (48 ∷ []) (b ∷ rest)
unfolding first_piece
zero_piece b rest = refl

pub colon_alone : (b : ℕ) (rest : List ℕ) → is_symbol_byte b ≡ false → first_piece 58 (b ∷ rest) ≡ piece (wrong BadChar) 0
unfolding first_piece
colon_alone b rest t = rw t refl
