-- Words by their lengths.
use Rattle.std.proofs.Common.{◌≡◌, ◌≢◌, ◌+◌, ◌<◌, ℕ, Bool, true, false, cond, List, [], ◌∷◌, ◌++◌, length, take, drop, get_or, refl, ap, ◌∙◌, sym, arith, append_assoc}
use Rattle.std.specs.Prelude.{◌==◌}
use Rattle.std.proofs.lemmas.Bool.Decides.{nat_tests}
use Rattle.std.proofs.lemmas.List.{take_more, drop_more, drop-drop, length-take-le}
use Rattle.std.proofs.Math.Seq.{take-add}
use Rattle.spec_text.specs.declared.Kind.TheVariants.{Decimal, Quoted, Keyword}
use Rattle.spec_text.specs.declared.Fault.TheVariants.{BadChar}
use Rattle.spec_text.specs.Bytes.{is_blank, is_digit, is_symbol_byte, is_in_bars, is_in_comment, front}
use Rattle.spec_text.specs.Lexemes as lexicon
use Rattle.spec_text.specs.Lexemes.{Piece, piece, word}
use Rattle.smt_lexer.specs.declared.pieces.FirstByte.{FirstByte}
use Rattle.smt_lexer.specs.declared.pieces.FirstByte.TheVariants as heads
use Rattle.smt_lexer.specs.Pieces.{head_at}
use Rattle.smt_lexer.proofs.Runs.{front_is_taken}

pub keyword_is : (rest : List ℕ) (n : ℕ) → n ≡ length (front is_symbol_byte rest) → n ≢ 0 → piece (word Keyword (take n rest)) (n + 1) ≡ lexicon.keyword (front is_symbol_byte rest)
keyword_is rest n l some = rw (l, front_is_taken is_symbol_byte rest) (go (front is_symbol_byte rest) (λ e. some (l ∙ e)))
  where
    go : (name : List ℕ) → length name ≢ 0 → piece (word Keyword name) (length name + 1) ≡ lexicon.keyword name
    go [] h = absurd (h refl)
    go (b ∷ bs) h = refl

pub quoted_is : (rest : List ℕ) (n : ℕ) → n ≡ length (front is_in_bars rest) → n < length rest → get_or rest n 0 ≡ 124 → piece (word Quoted (take n rest)) (n + 2) ≡ lexicon.quoted (front is_in_bars rest) (drop (length (front is_in_bars rest)) rest)
quoted_is rest n l lt e =
    let behind : drop (length (front is_in_bars rest)) rest ≡ 124 ∷ drop (n + 1) rest = ap (λ k. drop k rest) (sym l) ∙ drop_more rest n 0 lt ∙ ap (λ b. b ∷ drop (n + 1) rest) e in
    rw (behind, l, front_is_taken is_in_bars rest) refl

decimal_is : (digits places rest : List ℕ) → length places ≢ 0 → lexicon.decimal digits places rest ≡ lexicon.ended rest (length digits + 1 + length places) (word Decimal (digits ++ 46 ∷ places))
decimal_is digits [] rest some = absurd (some refl)
decimal_is digits (d ∷ ds) rest some = refl

pub number_is_decimal : (bytes : List ℕ) (k n : ℕ) → k < length bytes → get_or bytes k 0 ≡ 46 → n ≡ length (front is_digit (drop (k + 1) bytes)) → n ≢ 0 → lexicon.number (take k bytes) (drop k bytes) ≡ lexicon.ended (drop (k + 1 + n) bytes) (k + 1 + n) (word Decimal (take (k + 1 + n) bytes))
number_is_decimal bytes k n lt e l some =
    let rest = drop (k + 1) bytes in
    let places = front is_digit rest in
    let here : drop k bytes ≡ 46 ∷ drop (k + 1) bytes = drop_more bytes k 0 lt ∙ ap (λ b. b ∷ drop (k + 1) bytes) e in
    let text : take (k + 1 + n) bytes ≡ take k bytes ++ 46 ∷ places = take-add (k + 1) n bytes ∙ rw (take_more bytes k 0 lt, e, l, front_is_taken is_digit (drop (k + 1) bytes)) (append_assoc (take k bytes) (46 ∷ []) (front is_digit (drop (k + 1) bytes))) in
    let size : length (take k bytes) + 1 + length places ≡ k + 1 + n = omega (arith, length-take-le k bytes (omega arith), l) in
    let behind : drop (length places) rest ≡ drop (k + 1 + n) bytes = ap (λ m. drop m rest) (sym l) ∙ drop-drop n (k + 1) bytes in
    ap (lexicon.number (take k bytes)) here ∙ decimal_is (take k bytes) places (drop (length places) rest) (λ z. some (l ∙ z)) ∙ rw (size, behind, text) refl

-- what bytes begin with, by what the first of them says
abbrev pub piece_by : FirstByte → ℕ → List ℕ → Piece
piece_by heads.Blank b bs = piece lexicon.blank 1
piece_by heads.Semicolon b bs = piece lexicon.blank (1 + length (front is_in_comment bs))
piece_by heads.Open b bs = piece lexicon.opens 1
piece_by heads.Close b bs = piece lexicon.closes 1
piece_by heads.Zero b bs = lexicon.number (b ∷ []) bs
piece_by heads.Digit b bs = lexicon.number (b ∷ front is_digit bs) (drop (length (front is_digit bs)) bs)
piece_by heads.Quote b bs = lexicon.string (lexicon.string_body bs)
piece_by heads.Bar b bs = lexicon.quoted (front is_in_bars bs) (drop (length (front is_in_bars bs)) bs)
piece_by heads.Colon b bs = lexicon.keyword (front is_symbol_byte bs)
piece_by heads.Symbol b bs = lexicon.symbol (b ∷ front is_symbol_byte bs)
piece_by heads.Other b bs = piece (lexicon.wrong BadChar) 0

pub piece_by_head : (b : ℕ) (bs : List ℕ) → lexicon.first_piece b bs ≡ piece_by (head_at b) b bs
unfolding lexicon.first_piece
piece_by_head b bs = go (is_blank b) (b == 59) (b == 40) (b == 41) (b == 48) (is_digit b) (b == 34) (b == 124) (b == 58) (is_symbol_byte b) (λ e. grind (arith, nat_tests))
  where
    p : FirstByte → Piece
    p h = piece_by h b bs

    go : (blank semicolon opens closes zero_is digit quote bar colon symbol : Bool) → (zero_is ≡ true → b ≡ 48) → cond blank (p heads.Blank) (cond semicolon (p heads.Semicolon) (cond opens (p heads.Open) (cond closes (p heads.Close) (cond zero_is (lexicon.number (48 ∷ []) bs) (cond digit (p heads.Digit) (cond quote (p heads.Quote) (cond bar (p heads.Bar) (cond colon (p heads.Colon) (cond symbol (p heads.Symbol) (p heads.Other)))))))))) ≡ p (cond blank heads.Blank (cond semicolon heads.Semicolon (cond opens heads.Open (cond closes heads.Close (cond zero_is heads.Zero (cond digit heads.Digit (cond quote heads.Quote (cond bar heads.Bar (cond colon heads.Colon (cond symbol heads.Symbol heads.Other))))))))))
    go true _ _ _ _ _ _ _ _ _ e = refl
    go false true _ _ _ _ _ _ _ _ e = refl
    go false false true _ _ _ _ _ _ _ e = refl
    go false false false true _ _ _ _ _ _ e = refl
    go false false false false true _ _ _ _ _ e = ap (λ n. lexicon.number (n ∷ []) bs) (sym (e refl))
    go false false false false false true _ _ _ _ e = refl
    go false false false false false false true _ _ _ e = refl
    go false false false false false false false true _ _ e = refl
    go false false false false false false false false true _ e = refl
    go false false false false false false false false false true e = refl
    go false false false false false false false false false false e = refl

-- what bytes begin with, where their first says this
pub piece_at_head : (head h : FirstByte) (b : ℕ) (bs : List ℕ) → head ≡ head_at b → head ≡ h → lexicon.first_piece b bs ≡ piece_by h b bs
piece_at_head head h b bs at is = piece_by_head b bs ∙ ap (λ k. piece_by k b bs) (sym at ∙ is)

-- the first byte and a run after it
pub first_byte : (bytes : List ℕ) → 0 < length bytes → take 1 bytes ≡ get_or bytes 0 0 ∷ []
first_byte [] some = absurd (omega arith)
first_byte (b ∷ bs) some = refl

pub first_run : (test : ℕ → Bool) (bytes : List ℕ) (n : ℕ) → 0 < length bytes → n ≡ length (front test (drop 1 bytes)) → (take (1 + n) bytes ≡ get_or bytes 0 0 ∷ front test (drop 1 bytes)) × (drop (1 + n) bytes ≡ drop (length (front test (drop 1 bytes))) (drop 1 bytes))
first_run test bytes n some l =
    (take-add 1 n bytes ∙ rw (first_byte bytes some, l, front_is_taken test (drop 1 bytes)) refl, sym (drop-drop n 1 bytes) ∙ ap (λ m. drop m (drop 1 bytes)) l)
