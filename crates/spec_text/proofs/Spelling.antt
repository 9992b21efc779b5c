-- What bytes that are spelled as the table says begin with.
use Rattle.std.proofs.Common.{◌≡◌, ◌≤◌, ℕ, ◌+◌, true, false, List, [], ◌∷◌, ◌++◌, length, Some, sym, ap, ◌∙◌, refl, arith, subst, append_assoc, append-nil, length-append}
use Rattle.std.specs.Prelude.{◌==◌, option_map}
use Rattle.std.proofs.lemmas.Bool.Decides.{nat_tests}
use Rattle.std.proofs.lemmas.List.{drop_at}
use Rattle.std.proofs.lemmas.Bool.{cond-false}
use Rattle.spec_text.specs.declared.Kind.TheVariants.{Numeral, Decimal, Text, Quoted, Keyword}
use Rattle.spec_text.specs.declared.Fault.TheVariants.{BadChar}
use Rattle.spec_text.specs.Bytes.{is_blank, is_in_comment, is_digit, is_symbol_byte, is_in_bars, front}
use Rattle.spec_text.specs.Lexemes.{Lexeme, blank, opens, closes, word, wrong, Piece, piece, ended, number, string_body, after_quote, symbol, first_piece}
use Rattle.spec_text.specs.Lexicon.{Consists, IsNumeral, only_zero, digits, IsInside, empty, byte, pair, Spells, white_space, comment, open_parenthesis, close_parenthesis, numeral, decimal, string, simple_symbol, reserved_word, quoted_symbol, keyword, BeginsWithout, CanFollow}
use Rattle.spec_text.proofs.Tests.{other_byte, another_byte, not_blank, no_digit, front_of_run, no_front, IsSymbolic, reserved_is_symbolic}

-- what bytes begin with
abbrev pub piece_of : List ℕ → Piece
piece_of [] = piece (wrong BadChar) 0
piece_of (b ∷ bs) = first_piece b bs

blank_piece : (b : ℕ) (rest : List ℕ) → is_blank b ≡ true → first_piece b rest ≡ piece blank 1
unfolding first_piece
blank_piece b rest t = rw t refl

comment_piece : (bs rest : List ℕ) → Consists is_in_comment bs → first_piece 59 (bs ++ rest) ≡ piece blank (1 + length (bs ++ front is_in_comment rest))
unfolding first_piece
comment_piece bs rest h = ap (λ (xs : List ℕ). piece blank (1 + length xs)) (front_of_run is_in_comment bs rest h)

pub numeral_piece : (ds : List ℕ) → IsNumeral ds → (rest : List ℕ) → BeginsWithout is_digit rest → piece_of (ds ++ rest) ≡ number ds rest
unfolding first_piece
numeral_piece _ only_zero rest h = refl
numeral_piece _ (digits d ds some run) rest h =
    let no_blank : is_blank d ≡ false = not_blank is_digit d run.0 refl refl refl refl in
    let no_comment : (d == 59) ≡ false = other_byte is_digit d 59 run.0 refl in
    let no_open : (d == 40) ≡ false = other_byte is_digit d 40 run.0 refl in
    let no_close : (d == 41) ≡ false = other_byte is_digit d 41 run.0 refl in
    let no_zero : (d == 48) ≡ false = grind (arith, nat_tests) in
    let digit : is_digit d ≡ true = run.0 in
    let here : front is_digit (ds ++ rest) ≡ ds = front_of_run is_digit ds rest run.1 ∙ ap (λ (xs : List ℕ). ds ++ xs) (no_front is_digit rest h) ∙ append-nil ds in
    rw (no_blank, no_comment, no_open, no_close, no_zero, digit, here, drop_at ds rest (length ds) refl) refl

ended_piece : (rest : List ℕ) (n : ℕ) (x : Lexeme) → BeginsWithout is_symbol_byte rest → ended rest n x ≡ piece x n
ended_piece [] n x h = refl
ended_piece (b ∷ bs) n x h = rw h refl

pub no_digits : (rest : List ℕ) → BeginsWithout is_symbol_byte rest → BeginsWithout is_digit rest
no_digits [] h = tt
no_digits (b ∷ bs) h = no_digit b h

pub number_piece : (ds rest : List ℕ) → BeginsWithout is_symbol_byte rest → number ds rest ≡ piece (word Numeral ds) (length ds)
number_piece ds [] h = refl
number_piece ds (b ∷ bs) h =
    let no_point : (b == 46) ≡ false = another_byte is_symbol_byte b 46 h refl in
    cond-false (b == 46) _ _ no_point ∙ ended_piece (b ∷ bs) (length ds) (word Numeral ds) h

pub point_piece : (ds : List ℕ) (f : ℕ) (fs rest : List ℕ) → Consists is_digit (f ∷ fs) → BeginsWithout is_symbol_byte rest → number ds (46 ∷ f ∷ fs ++ rest) ≡ piece (word Decimal (ds ++ 46 ∷ f ∷ fs)) (length (ds ++ 46 ∷ f ∷ fs))
point_piece ds f fs rest run h =
    let here : front is_digit (f ∷ fs ++ rest) ≡ f ∷ fs = front_of_run is_digit (f ∷ fs) rest run ∙ ap (λ (xs : List ℕ). f ∷ fs ++ xs) (no_front is_digit rest (no_digits rest h)) ∙ append-nil (f ∷ fs) in
    let size : length ds + 1 + length (f ∷ fs) ≡ length (ds ++ 46 ∷ f ∷ fs) = omega (arith, length-append ds (46 ∷ f ∷ fs)) in
    rw (here, drop_at (f ∷ fs) rest (length (f ∷ fs)) refl, size) (ended_piece rest (length (ds ++ 46 ∷ f ∷ fs)) (word Decimal (ds ++ 46 ∷ f ∷ fs)) h)

inside_body : (bs : List ℕ) → IsInside bs → (rest : List ℕ) → BeginsWithout (λ b. b == 34) rest → string_body (bs ++ 34 ∷ rest) ≡ Some bs
unfolding string_body after_quote
inside_body _ empty rest h = go rest h
  where
    go : (rest : List ℕ) → BeginsWithout (λ b. b == 34) rest → after_quote rest ≡ Some []
    go [] k = refl
    go (b ∷ bs) k = rw k refl
inside_body _ (byte b bs other inside) rest h =
    let no_quote : (b == 34) ≡ false = grind (arith, nat_tests) in
    rw no_quote (ap (option_map (λ (body : List ℕ). b ∷ body)) (inside_body bs inside rest h))
inside_body _ (pair bs inside) rest h = ap (option_map (λ (body : List ℕ). 34 ∷ 34 ∷ body)) (inside_body bs inside rest h)

pub string_piece : (bs rest : List ℕ) → IsInside bs → BeginsWithout (λ b. b == 34) rest → first_piece 34 ((bs ++ 34 ∷ []) ++ rest) ≡ piece (word Text bs) (length bs + 2)
unfolding first_piece
string_piece bs rest inside h = rw (append_assoc bs (34 ∷ []) rest, inside_body bs inside rest h) refl

pub quoted_piece : (bs rest : List ℕ) → Consists is_in_bars bs → first_piece 124 ((bs ++ 124 ∷ []) ++ rest) ≡ piece (word Quoted bs) (length bs + 2)
unfolding first_piece
quoted_piece bs rest run =
    let here : front is_in_bars (bs ++ 124 ∷ rest) ≡ bs = front_of_run is_in_bars bs (124 ∷ rest) run ∙ append-nil bs in
    rw (append_assoc bs (124 ∷ []) rest, here, drop_at bs (124 ∷ rest) (length bs) refl) refl

pub symbol_piece : (b : ℕ) (bs rest : List ℕ) → IsSymbolic b bs → first_piece b (bs ++ rest) ≡ symbol (b ∷ bs ++ front is_symbol_byte rest)
unfolding first_piece
symbol_piece b bs rest h =
    let yes_symbol : is_symbol_byte b ≡ true = h.run.0 in
    let no_blank : is_blank b ≡ false = not_blank is_symbol_byte b yes_symbol refl refl refl refl in
    let no_comment : (b == 59) ≡ false = other_byte is_symbol_byte b 59 yes_symbol refl in
    let no_open : (b == 40) ≡ false = other_byte is_symbol_byte b 40 yes_symbol refl in
    let no_close : (b == 41) ≡ false = other_byte is_symbol_byte b 41 yes_symbol refl in
    let no_zero : (b == 48) ≡ false = another_byte is_digit b 48 h.no_number refl in
    let no_number : is_digit b ≡ false = h.no_number in
    let no_quote : (b == 34) ≡ false = other_byte is_symbol_byte b 34 yes_symbol refl in
    let no_bar : (b == 124) ≡ false = other_byte is_symbol_byte b 124 yes_symbol refl in
    let no_colon : (b == 58) ≡ false = other_byte is_symbol_byte b 58 yes_symbol refl in
    rw (yes_symbol, no_blank, no_comment, no_open, no_close, no_zero, no_number, no_quote, no_bar, no_colon, front_of_run is_symbol_byte bs rest h.run.1) refl

pub keyword_piece : (b : ℕ) (bs rest : List ℕ) → Consists is_symbol_byte (b ∷ bs) → first_piece 58 (b ∷ bs ++ rest) ≡ piece (word Keyword (b ∷ bs ++ front is_symbol_byte rest)) (length (b ∷ bs ++ front is_symbol_byte rest) + 1)
unfolding first_piece
keyword_piece b bs rest run = rw (front_of_run is_symbol_byte (b ∷ bs) rest run) refl

-- it is no fault, and has as many bytes at least
abbrev pub Reaches : Lexeme → ℕ → ℕ → Type 0
Reaches (wrong f) size n = ⊥
Reaches blank size n = n ≤ size
Reaches opens size n = n ≤ size
Reaches closes size n = n ≤ size
Reaches (word k name) size n = n ≤ size

along : (p q : Piece) (n : ℕ) → p ≡ q → Reaches q.lexeme q.size n → Reaches p.lexeme p.size n
along p q n e h = subst (λ (r : Piece). Reaches r.lexeme r.size n) (sym e) h

-- bytes that are spelled as the table says, before bytes that can follow them
pub reach : (bytes : List ℕ) (x : Lexeme) → Spells bytes x → (rest : List ℕ) → CanFollow x rest → Reaches (piece_of (bytes ++ rest)).lexeme (piece_of (bytes ++ rest)).size (length bytes)
unfolding first_piece
reach _ _ (white_space b t) rest h = along _ _ 1 (blank_piece b rest t) (omega arith)
reach _ _ (comment bs run) rest h = along _ _ (length (59 ∷ bs)) (comment_piece bs rest run) (omega (arith, length-append bs (front is_in_comment rest)))
reach _ _ open_parenthesis rest h = omega arith
reach _ _ close_parenthesis rest h = omega arith
reach _ _ (numeral ds n) rest h = along _ _ (length ds) (numeral_piece ds n rest (no_digits rest h) ∙ number_piece ds rest h) (omega arith)
reach _ _ (decimal ds f fs n run) rest h = along _ _ (length (ds ++ 46 ∷ f ∷ fs)) (ap piece_of (append_assoc ds (46 ∷ f ∷ fs) rest) ∙ numeral_piece ds n (46 ∷ f ∷ fs ++ rest) refl ∙ point_piece ds f fs rest run h) (omega arith)
reach _ _ (string bs inside) rest h = along _ _ (length (34 ∷ bs ++ 34 ∷ [])) (string_piece bs rest inside h) (omega (arith, length-append bs (34 ∷ [])))
reach _ _ (simple_symbol b bs no_number run simple) rest h = along _ _ (length (b ∷ bs)) (symbol_piece b bs rest record { no_number = no_number; run = run }) (omega (arith, length-append bs (front is_symbol_byte rest)))
reach _ _ (reserved_word [] reserved) rest h = absurd (reserved_is_symbolic [] reserved)
reach _ _ (reserved_word (b ∷ bs) reserved) rest h = along _ _ (length (b ∷ bs)) (symbol_piece b bs rest (reserved_is_symbolic (b ∷ bs) reserved)) (omega (arith, length-append bs (front is_symbol_byte rest)))
reach _ _ (quoted_symbol bs run) rest h = along _ _ (length (124 ∷ bs ++ 124 ∷ [])) (quoted_piece bs rest run) (omega (arith, length-append bs (124 ∷ [])))
reach _ _ (keyword b bs run) rest h = along _ _ (length (58 ∷ b ∷ bs)) (keyword_piece b bs rest run) (omega (arith, length-append bs (front is_symbol_byte rest)))

-- where nothing follows, the lexeme is the table's
pub spelled_lexeme : (bytes : List ℕ) (x : Lexeme) → Spells bytes x → (piece_of (bytes ++ [])).lexeme ≡ x
unfolding first_piece
spelled_lexeme _ _ (white_space b t) = ap (λ (p : Piece). p.lexeme) (blank_piece b [] t)
spelled_lexeme _ _ (comment bs run) = ap (λ (p : Piece). p.lexeme) (comment_piece bs [] run)
spelled_lexeme _ _ open_parenthesis = refl
spelled_lexeme _ _ close_parenthesis = refl
spelled_lexeme _ _ (numeral ds n) = ap (λ (p : Piece). p.lexeme) (numeral_piece ds n [] tt)
spelled_lexeme _ _ (decimal ds f fs n run) = ap (λ (p : Piece). p.lexeme) (ap piece_of (append_assoc ds (46 ∷ f ∷ fs) []) ∙ numeral_piece ds n (46 ∷ f ∷ fs ++ []) refl ∙ point_piece ds f fs [] run tt)
spelled_lexeme _ _ (string bs inside) = ap (λ (p : Piece). p.lexeme) (string_piece bs [] inside tt)
spelled_lexeme _ _ (simple_symbol b bs no_number run simple) = ap (λ (p : Piece). p.lexeme) (symbol_piece b bs [] record { no_number = no_number; run = run }) ∙ rw (append-nil bs, simple) refl
spelled_lexeme _ _ (reserved_word [] reserved) = absurd (reserved_is_symbolic [] reserved)
spelled_lexeme _ _ (reserved_word (b ∷ bs) reserved) = ap (λ (p : Piece). p.lexeme) (symbol_piece b bs [] (reserved_is_symbolic (b ∷ bs) reserved)) ∙ rw (append-nil bs, reserved) refl
spelled_lexeme _ _ (quoted_symbol bs run) = ap (λ (p : Piece). p.lexeme) (quoted_piece bs [] run)
spelled_lexeme _ _ (keyword b bs run) = ap (λ (p : Piece). p.lexeme) (keyword_piece b bs [] run) ∙ rw (append-nil bs) refl
