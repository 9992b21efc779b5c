-- What bytes begin with is spelled as the table says.
use Rattle.std.proofs.Common.{◌≡◌, ◌≢◌, ℕ, ◌+◌, Bool, true, false, cond, List, [], ◌∷◌, ◌++◌, length, take, drop, Option, Some, None, sym, ap, ◌∙◌, refl, arith, subst, append_assoc, length-append, take-append-drop, length-take-le}
use Rattle.std.specs.Prelude.{◌==◌, option_map}
use Rattle.std.proofs.lemmas.Bool.Decides.{nat_tests}
use Rattle.std.proofs.lemmas.List.{drop_at, take_at}
use Rattle.spec_text.specs.declared.Kind.{Kind}
use Rattle.spec_text.specs.declared.Kind.TheVariants.{Numeral, Decimal, Text, Simple, Quoted, Reserved, Keyword}
use Rattle.spec_text.specs.Bytes.{is_blank, is_in_comment, is_digit, is_symbol_byte, is_in_bars, front, among, reserved_words}
use Rattle.spec_text.specs.Lexemes as lexicon
use Rattle.spec_text.specs.Lexemes.{Lexeme, blank, opens, closes, word, wrong, Piece, piece, string_body, after_quote, first_piece}
use Rattle.spec_text.specs.Lexicon.{Consists, IsNumeral, only_zero, digits, IsInside, empty, byte, pair, Spells, white_space, comment, open_parenthesis, close_parenthesis, numeral, decimal, string, simple_symbol, reserved_word, quoted_symbol, keyword, BeginsWithout, CanFollow, StartsWith, IsFirst}
use Rattle.spec_text.proofs.Tests.{front_is_run, front_then_rest}
use Rattle.spec_text.proofs.Spelling.{piece_of, Reaches, reach}

begins_with : (bytes xs rest : List ℕ) (n : ℕ) (x : Lexeme) → bytes ≡ xs ++ rest → n ≡ length xs → Spells xs x → CanFollow x rest → StartsWith bytes n x
begins_with bytes xs rest n x e l spelled behind = record {
  within = omega (arith, ap length e, length-append xs rest);
  spelled = subst (λ (ys : List ℕ). Spells ys x) (sym (ap (take n) e ∙ take_at xs rest n (sym l))) spelled;
  after = subst (CanFollow x) (sym (ap (drop n) e ∙ drop_at xs rest n (sym l))) behind;
}

-- it is a fault, or so many bytes begin with it
abbrev HasPrefix : List ℕ → Lexeme → ℕ → Type 0
HasPrefix bytes (wrong f) n = Unit {0}
HasPrefix bytes blank n = StartsWith bytes n blank
HasPrefix bytes opens n = StartsWith bytes n opens
HasPrefix bytes closes n = StartsWith bytes n closes
HasPrefix bytes (word k name) n = StartsWith bytes n (word k name)

abbrev IsPrefix : List ℕ → Piece → Type 0
IsPrefix bytes p = HasPrefix bytes p.lexeme p.size

split : (bytes : List ℕ) (t : Bool) (p q : Piece) → (t ≡ true → IsPrefix bytes p) → (t ≡ false → IsPrefix bytes q) → IsPrefix bytes (cond t p q)
split bytes true p q f g = f refl
split bytes false p q f g = g refl

ended_front : (bytes xs rest : List ℕ) (n : ℕ) (k : Kind) → bytes ≡ xs ++ rest → n ≡ length xs → Spells xs (word k xs) → (BeginsWithout is_symbol_byte rest → CanFollow (word k xs) rest) → IsPrefix bytes (lexicon.ended rest n (word k xs))
ended_front bytes xs [] n k e l spelled f = begins_with bytes xs [] n (word k xs) e l spelled (f tt)
ended_front bytes xs (b ∷ bs) n k e l spelled f = split bytes (is_symbol_byte b) _ _ (λ t. tt) (λ t. begins_with bytes xs (b ∷ bs) n (word k xs) e l spelled (f t))

decimal_front : (bytes ds fs rest : List ℕ) → bytes ≡ ds ++ 46 ∷ fs ++ rest → IsNumeral ds → Consists is_digit fs → IsPrefix bytes (lexicon.decimal ds fs rest)
decimal_front bytes ds [] rest e n run = tt
decimal_front bytes ds (f ∷ fs) rest e n run = ended_front bytes (ds ++ 46 ∷ f ∷ fs) rest (length ds + 1 + length (f ∷ fs)) Decimal e (omega (arith, length-append ds (46 ∷ f ∷ fs))) (decimal ds f fs n run) (λ h. h)

number_front : (bytes ds rest : List ℕ) → bytes ≡ ds ++ rest → IsNumeral ds → IsPrefix bytes (lexicon.number ds rest)
number_front bytes ds [] e n = begins_with bytes ds [] (length ds) (word Numeral ds) e refl (numeral ds n) tt
number_front bytes ds (b ∷ bs) e n = split bytes (b == 46) _ _
    (λ t. let point : b ≡ 46 = grind (arith, nat_tests) in
    decimal_front bytes ds (front is_digit bs) (drop (length (front is_digit bs)) bs) (e ∙ ap (λ (c : ℕ). ds ++ c ∷ bs) point ∙ ap (λ (cs : List ℕ). ds ++ 46 ∷ cs) (front_then_rest is_digit bs) ∙ sym (append_assoc ds (46 ∷ front is_digit bs) (drop (length (front is_digit bs)) bs))) n (front_is_run is_digit bs))
    (λ t. ended_front bytes ds (b ∷ bs) (length ds) Numeral e refl (numeral ds n) (λ h. h))

-- what a string's body is of the bytes after the opening quote
record IsBody (bs body : List ℕ) : Type 0 where
  rest : List ℕ
  inside : IsInside body
  text : bs ≡ body ++ 34 ∷ rest
  behind : BeginsWithout (λ b. b == 34) rest

abbrev HasBody : List ℕ → Option (List ℕ) → Type 0
HasBody bs None = Unit {0}
HasBody bs (Some body) = IsBody bs body

body_byte : (b : ℕ) (bs : List ℕ) (o : Option (List ℕ)) → b ≢ 34 → HasBody bs o → HasBody (b ∷ bs) (option_map (λ (body : List ℕ). b ∷ body) o)
body_byte b bs None other h = tt
body_byte b bs (Some body) other h = record { rest = h.rest; inside = byte b body other h.inside; text = ap (λ (xs : List ℕ). b ∷ xs) h.text; behind = h.behind }

body_pair : (bs : List ℕ) (o : Option (List ℕ)) → HasBody bs o → HasBody (34 ∷ 34 ∷ bs) (option_map (λ (body : List ℕ). 34 ∷ 34 ∷ body) o)
body_pair bs None h = tt
body_pair bs (Some body) h = record { rest = h.rest; inside = pair body h.inside; text = ap (λ (xs : List ℕ). 34 ∷ 34 ∷ xs) h.text; behind = h.behind }

split_body : (bs : List ℕ) (t : Bool) (o q : Option (List ℕ)) → (t ≡ true → HasBody bs o) → (t ≡ false → HasBody bs q) → HasBody bs (cond t o q)
split_body bs true o q f g = f refl
split_body bs false o q f g = g refl

mutual
  unfolding string_body after_quote

  body_of : (bs : List ℕ) → HasBody bs (string_body bs)
  body_of [] = tt
  body_of (b ∷ bs) = split_body (b ∷ bs) (b == 34) _ _
      (λ t. let quote : b ≡ 34 = grind (arith, nat_tests) in
      subst (λ (c : ℕ). HasBody (c ∷ bs) (after_quote bs)) (sym quote) (body_after bs))
      (λ t. body_byte b bs (string_body bs) (grind (arith, nat_tests)) (body_of bs))

  body_after : (bs : List ℕ) → HasBody (34 ∷ bs) (after_quote bs)
  body_after [] = record { rest = []; inside = empty; text = refl; behind = tt }
  body_after (b ∷ bs) = split_body (34 ∷ b ∷ bs) (b == 34) _ _
      (λ t. let quote : b ≡ 34 = grind (arith, nat_tests) in
      subst (λ (c : ℕ). HasBody (34 ∷ c ∷ bs) (option_map (λ (body : List ℕ). 34 ∷ 34 ∷ body) (string_body bs))) (sym quote) (body_pair bs (string_body bs) (body_of bs)))
      (λ t. record { rest = b ∷ bs; inside = empty; text = refl; behind = t })

string_front : (bs : List ℕ) (o : Option (List ℕ)) → HasBody bs o → IsPrefix (34 ∷ bs) (lexicon.string o)
string_front bs None h = tt
string_front bs (Some body) h = begins_with (34 ∷ bs) (34 ∷ body ++ 34 ∷ []) h.rest (length body + 2) (word Text body) (ap (λ (xs : List ℕ). 34 ∷ xs) (h.text ∙ sym (append_assoc body (34 ∷ []) h.rest))) (omega (arith, length-append body (34 ∷ []))) (string body h.inside) h.behind

quoted_front : (bs name rest : List ℕ) → bs ≡ name ++ rest → Consists is_in_bars name → IsPrefix (124 ∷ bs) (lexicon.quoted name rest)
quoted_front bs name [] e run = tt
quoted_front bs name (b ∷ rest) e run = split (124 ∷ bs) (b == 124) _ _
    (λ t. let bar : b ≡ 124 = grind (arith, nat_tests) in
    begins_with (124 ∷ bs) (124 ∷ name ++ 124 ∷ []) rest (length name + 2) (word Quoted name) (ap (λ (xs : List ℕ). 124 ∷ xs) (e ∙ ap (λ (c : ℕ). name ++ c ∷ rest) bar ∙ sym (append_assoc name (124 ∷ []) rest))) (omega (arith, length-append name (124 ∷ []))) (quoted_symbol name run) tt)
    (λ t. tt)

keyword_front : (bs name rest : List ℕ) → bs ≡ name ++ rest → Consists is_symbol_byte name → IsPrefix (58 ∷ bs) (lexicon.keyword name)
keyword_front bs [] rest e run = tt
keyword_front bs (b ∷ name) rest e run = begins_with (58 ∷ bs) (58 ∷ b ∷ name) rest (length (b ∷ name) + 1) (word Keyword (b ∷ name)) (ap (λ (xs : List ℕ). 58 ∷ xs) e) (omega arith) (keyword b name run) tt

symbol_front : (b : ℕ) (bs name rest : List ℕ) → bs ≡ name ++ rest → is_digit b ≡ false → Consists is_symbol_byte (b ∷ name) → IsPrefix (b ∷ bs) (lexicon.symbol (b ∷ name))
symbol_front b bs name rest e no_number run = go (among reserved_words (b ∷ name)) (λ t. reserved_word (b ∷ name) t) (λ t. simple_symbol b name no_number run t)
  where
    go : (t : Bool) → (t ≡ true → Spells (b ∷ name) (word Reserved (b ∷ name))) → (t ≡ false → Spells (b ∷ name) (word Simple (b ∷ name))) → IsPrefix (b ∷ bs) (piece (word (cond t Reserved Simple) (b ∷ name)) (length (b ∷ name)))
    go true f g = begins_with (b ∷ bs) (b ∷ name) rest (length (b ∷ name)) (word Reserved (b ∷ name)) (ap (λ (xs : List ℕ). b ∷ xs) e) refl (f refl) tt
    go false f g = begins_with (b ∷ bs) (b ∷ name) rest (length (b ∷ name)) (word Simple (b ∷ name)) (ap (λ (xs : List ℕ). b ∷ xs) e) refl (g refl) tt

digits_front : (b : ℕ) (bs : List ℕ) → (b == 48) ≡ false → is_digit b ≡ true → IsPrefix (b ∷ bs) (lexicon.number (b ∷ front is_digit bs) (drop (length (front is_digit bs)) bs))
digits_front b bs z t = number_front (b ∷ bs) (b ∷ front is_digit bs) (drop (length (front is_digit bs)) bs) (ap (λ (xs : List ℕ). b ∷ xs) (front_then_rest is_digit bs)) (digits b (front is_digit bs) (grind (arith, nat_tests)) (t, front_is_run is_digit bs))

is_front : (b : ℕ) (bs : List ℕ) → IsPrefix (b ∷ bs) (first_piece b bs)
unfolding first_piece
is_front b bs =
    split (b ∷ bs) (is_blank b) _ _ (λ t. begins_with (b ∷ bs) (b ∷ []) bs 1 blank refl refl (white_space b t) tt) (λ _.
    split (b ∷ bs) (b == 59) _ _ (λ t. at 59 t (piece blank (1 + length (front is_in_comment bs))) (begins_with (59 ∷ bs) (59 ∷ front is_in_comment bs) (drop (length (front is_in_comment bs)) bs) (1 + length (front is_in_comment bs)) blank (ap (λ (xs : List ℕ). 59 ∷ xs) (front_then_rest is_in_comment bs)) (omega arith) (comment (front is_in_comment bs) (front_is_run is_in_comment bs)) tt)) (λ _.
    split (b ∷ bs) (b == 40) _ _ (λ t. at 40 t (piece opens 1) (begins_with (40 ∷ bs) (40 ∷ []) bs 1 opens refl refl open_parenthesis tt)) (λ _.
    split (b ∷ bs) (b == 41) _ _ (λ t. at 41 t (piece closes 1) (begins_with (41 ∷ bs) (41 ∷ []) bs 1 closes refl refl close_parenthesis tt)) (λ _.
    split (b ∷ bs) (b == 48) _ _ (λ t. at 48 t (lexicon.number (48 ∷ []) bs) (number_front (48 ∷ bs) (48 ∷ []) bs refl only_zero)) (λ z.
    split (b ∷ bs) (is_digit b) _ _ (λ t. digits_front b bs z t) (λ no_number.
    split (b ∷ bs) (b == 34) _ _ (λ t. at 34 t (lexicon.string (string_body bs)) (string_front bs (string_body bs) (body_of bs))) (λ _.
    split (b ∷ bs) (b == 124) _ _ (λ t. at 124 t (lexicon.quoted (front is_in_bars bs) (drop (length (front is_in_bars bs)) bs)) (quoted_front bs (front is_in_bars bs) (drop (length (front is_in_bars bs)) bs) (front_then_rest is_in_bars bs) (front_is_run is_in_bars bs))) (λ _.
    split (b ∷ bs) (b == 58) _ _ (λ t. at 58 t (lexicon.keyword (front is_symbol_byte bs)) (keyword_front bs (front is_symbol_byte bs) (drop (length (front is_symbol_byte bs)) bs) (front_then_rest is_symbol_byte bs) (front_is_run is_symbol_byte bs))) (λ _.
    split (b ∷ bs) (is_symbol_byte b) _ _ (λ t. symbol_front b bs (front is_symbol_byte bs) (drop (length (front is_symbol_byte bs)) bs) (front_then_rest is_symbol_byte bs) no_number (t, front_is_run is_symbol_byte bs)) (λ _. tt))))))))))
  where
    at : (c : ℕ) → (b == c) ≡ true → (p : Piece) → IsPrefix (c ∷ bs) p → IsPrefix (b ∷ bs) p
    at c t p h = let same : c ≡ b = grind (arith, nat_tests) in subst (λ (d : ℕ). IsPrefix (d ∷ bs) p) same h

-- no longer prefix is a lexeme
no_longer : (b : ℕ) (bs : List ℕ) (m : ℕ) (y : Lexeme) → StartsWith (b ∷ bs) m y → Reaches (first_piece b bs).lexeme (first_piece b bs).size m
no_longer b bs m y h =
    let whole : take m (b ∷ bs) ++ drop m (b ∷ bs) ≡ b ∷ bs = take-append-drop m (b ∷ bs) in
    let size : length (take m (b ∷ bs)) ≡ m = length-take-le m (b ∷ bs) h.within in
    subst (λ (k : ℕ). Reaches (first_piece b bs).lexeme (first_piece b bs).size k) size (subst (λ (xs : List ℕ). Reaches (piece_of xs).lexeme (piece_of xs).size (length (take m (b ∷ bs)))) whole (reach (take m (b ∷ bs)) y h.spelled (drop m (b ∷ bs)) h.after))

pub first_is_longest : (b : ℕ) (bs : List ℕ) → IsFirst (b ∷ bs) (first_piece b bs).lexeme (first_piece b bs).size
first_is_longest b bs = go (first_piece b bs).lexeme (first_piece b bs).size (is_front b bs) (no_longer b bs)
  where
    go : (x : Lexeme) (n : ℕ) → HasPrefix (b ∷ bs) x n → ((m : ℕ) (y : Lexeme) → StartsWith (b ∷ bs) m y → Reaches x n m) → IsFirst (b ∷ bs) x n
    go (wrong f) n front longest = longest
    go blank n front longest = record { begins = front; longest = longest }
    go opens n front longest = record { begins = front; longest = longest }
    go closes n front longest = record { begins = front; longest = longest }
    go (word k name) n front longest = record { begins = front; longest = longest }
