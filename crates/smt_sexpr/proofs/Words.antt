-- The bytes of a word are those of the text.
use Rattle.std.proofs.Common.{◌≡◌, ℕ, zero, suc, ◌+◌, ◌-◌, ◌==◌, Bool, true, false, List, [], ◌∷◌, ◌++◌, length, length-take, length-drop, ◌≤◌, arith, take, drop, Option, Some, None, refl, sym, ap, ◌∙◌, cond, append_assoc, subst}
use Rattle.std.specs.Prelude.{option_map, ⊤}
use Rattle.std.proofs.lemmas.List.{take_at, drop-drop, take-append-drop}
use Rattle.std.proofs.lemmas.Bool.{eqb-true}
use Rattle.spec_text.specs.declared.Kind.{Kind}
use Rattle.spec_text.specs.declared.Kind.TheVariants.{Numeral, Decimal, Simple, Reserved}
use Rattle.spec_text.specs.Bytes.{is_blank, is_digit, is_symbol_byte, is_in_bars, among, front, reserved_words}
use Rattle.spec_text.specs.Lexemes.{Lexeme, blank, opens, closes, word, wrong, Piece, piece, ended, decimal, number, string_body, after_quote, string, quoted, keyword, symbol, first_piece, before, lexemes}
use Rattle.spec_text.proofs.Offsets.{next_here}
use Rattle.smt_sexpr.specs.Means.{marks, bytes_at}

-- a word's bytes come after its marks
abbrev IsSpeltBy : List ℕ → Lexeme → Type 0
IsSpeltBy bs (word k w) = w ≡ take (length w) (drop (marks k) bs)
IsSpeltBy bs _ = ⊤

abbrev IsSpelt : List ℕ → Piece → Type 0
IsSpelt bs p = IsSpeltBy bs p.lexeme

either : (bs : List ℕ) (c : Bool) (p q : Piece) → (c ≡ true → IsSpelt bs p) → (c ≡ false → IsSpelt bs q) → IsSpelt bs (cond c p q)
either bs true p q h k = h refl
either bs false p q h k = k refl

pub front_split : (test : ℕ → Bool) (bs : List ℕ) → front test bs ++ drop (length (front test bs)) bs ≡ bs
front_split test [] = refl
front_split test (b ∷ bs) = go (test b) (front_split test bs)
  where
    go : (c : Bool) → front test bs ++ drop (length (front test bs)) bs ≡ bs → cond c (b ∷ front test bs) [] ++ drop (length (cond c (b ∷ front test bs) [])) (b ∷ bs) ≡ b ∷ bs
    go true h = ap (λ xs. b ∷ xs) h
    go false h = refl

-- a prefix of two lists one after the other
taken : (xs ys : List ℕ) → xs ≡ take (length xs) (xs ++ ys)
taken xs ys = sym (take_at xs ys (length xs) refl)

taken_from : (xs ys zs : List ℕ) → xs ++ ys ≡ zs → xs ≡ take (length xs) zs
taken_from xs ys zs e = taken xs ys ∙ ap (take (length xs)) e

ended_spelt : (bs rest : List ℕ) (n : ℕ) (x : Lexeme) → IsSpeltBy bs x → IsSpelt bs (ended rest n x)
ended_spelt bs [] n x h = h
ended_spelt bs (c ∷ cs) n x h = either bs (is_symbol_byte c) (piece (wrong _) n) (piece x n) (λ _. tt) (λ _. h)

decimal_spelt : (digits cs ds rest : List ℕ) → ds ++ rest ≡ cs → IsSpelt (digits ++ 46 ∷ cs) (decimal digits ds rest)
decimal_spelt digits cs [] rest e = tt
decimal_spelt digits cs (d ∷ ds) rest e = ended_spelt (digits ++ 46 ∷ cs) rest _ (word Decimal (digits ++ 46 ∷ d ∷ ds))
    (taken_from (digits ++ 46 ∷ d ∷ ds) rest (digits ++ 46 ∷ cs) (append_assoc digits (46 ∷ d ∷ ds) rest ∙ ap (λ xs. digits ++ 46 ∷ xs) e))

number_spelt : (digits rest : List ℕ) → IsSpelt (digits ++ rest) (number digits rest)
number_spelt digits [] = taken digits []
number_spelt digits (c ∷ cs) = either (digits ++ c ∷ cs) (c == 46) _ _
    (λ point. let e : c ≡ 46 = eqb-true c 46 point in rw e (decimal_spelt digits cs (front is_digit cs) (drop (length (front is_digit cs)) cs) (front_split is_digit cs)))
    (λ _. ended_spelt (digits ++ c ∷ cs) (c ∷ cs) (length digits) (word Numeral digits) (taken digits (c ∷ cs)))

some_is : {x y : List ℕ} → Some x ≡ Some y → x ≡ y
some_is e = cc

prefixed : (xs : List ℕ) (o : Option (List ℕ)) (bs body : List ℕ) → ((rest : List ℕ) → o ≡ Some rest → rest ≡ take (length rest) bs) → option_map (λ rest. xs ++ rest) o ≡ Some body → body ≡ take (length body) (xs ++ bs)
prefixed xs None bs body h e = cc
prefixed xs (Some rest) bs body h e =
    let same : xs ++ rest ≡ body = some_is e in
    rw (← same) (taken_from (xs ++ rest) (drop (length rest) bs) (xs ++ bs) (append_assoc xs rest (drop (length rest) bs) ∙ ap (λ ys. xs ++ ys) (ap (λ r. r ++ drop (length rest) bs) (h rest refl) ∙ take-append-drop (length rest) bs)))

body_by : (b : ℕ) (bs body : List ℕ) (c : Bool) → (b == 34) ≡ c → ((rest : List ℕ) → string_body bs ≡ Some rest → rest ≡ take (length rest) bs)
    → (b ≡ 34 → (rest : List ℕ) → after_quote bs ≡ Some rest → rest ≡ take (length rest) (b ∷ bs)) → cond c (after_quote bs) (option_map (λ body. b ∷ body) (string_body bs)) ≡ Some body → body ≡ take (length body) (b ∷ bs)
body_by b bs body true q rec after e = after (eqb-true b 34 q) body e
body_by b bs body false q rec after e = prefixed (b ∷ []) (string_body bs) bs body rec e

after_by : (b c : ℕ) (cs body : List ℕ) → b ≡ 34 → (t : Bool) → (c == 34) ≡ t → ((rest : List ℕ) → string_body cs ≡ Some rest → rest ≡ take (length rest) cs) → cond t (option_map (λ body. 34 ∷ 34 ∷ body) (string_body cs)) (Some []) ≡ Some body → body ≡ take (length body) (b ∷ c ∷ cs)
after_by b c cs body s true q rec e = rw (s, eqb-true c 34 q) (prefixed (34 ∷ 34 ∷ []) (string_body cs) cs body rec e)
after_by b c cs body s false q rec e = let same : [] ≡ body = some_is e in rw (← same) refl

mutual
  unfolding string_body after_quote

  body_taken : (bs body : List ℕ) → string_body bs ≡ Some body → body ≡ take (length body) bs
  body_taken [] body e = cc
  body_taken (b ∷ bs) body e = body_by b bs body (b == 34) refl (λ rest. body_taken bs rest) (λ s rest. after_taken b bs rest s) e

  after_taken : (b : ℕ) (bs body : List ℕ) → b ≡ 34 → after_quote bs ≡ Some body → body ≡ take (length body) (b ∷ bs)
  after_taken b [] body s e = let same : [] ≡ body = some_is e in rw (← same) refl
  after_taken b (c ∷ cs) body s e = after_by b c cs body s (c == 34) refl (λ rest. body_taken cs rest) e

string_spelt : (b : ℕ) (bs : List ℕ) → IsSpelt (b ∷ bs) (string (string_body bs))
string_spelt b bs = go (string_body bs) (λ body. body_taken bs body)
  where
    go : (o : Option (List ℕ)) → ((body : List ℕ) → o ≡ Some body → body ≡ take (length body) bs) → IsSpelt (b ∷ bs) (string o)
    go None h = tt
    go (Some body) h = h body refl

quoted_spelt : (b : ℕ) (name rest bs : List ℕ) → name ++ rest ≡ bs → IsSpelt (b ∷ bs) (quoted name rest)
quoted_spelt b name [] bs e = tt
quoted_spelt b name (c ∷ cs) bs e = either (b ∷ bs) (c == 124) _ _ (λ _. taken_from name (c ∷ cs) bs e) (λ _. tt)

keyword_spelt : (b : ℕ) (name rest bs : List ℕ) → name ++ rest ≡ bs → IsSpelt (b ∷ bs) (keyword name)
keyword_spelt b [] rest bs e = tt
keyword_spelt b (c ∷ cs) rest bs e = taken_from (c ∷ cs) rest bs e

symbol_spelt : (name rest bs : List ℕ) → name ++ rest ≡ bs → IsSpelt bs (symbol name)
symbol_spelt name rest bs e = go (among reserved_words name)
  where
    go : (c : Bool) → IsSpeltBy bs (word (cond c Reserved Simple) name)
    go true = taken_from name rest bs e
    go false = taken_from name rest bs e

first_spelt : (b : ℕ) (bs : List ℕ) → IsSpelt (b ∷ bs) (first_piece b bs)
unfolding first_piece
first_spelt b bs =
    either (b ∷ bs) (is_blank b) _ _ (λ _. tt) λ _.
    either (b ∷ bs) (b == 59) _ _ (λ _. tt) λ _.
    either (b ∷ bs) (b == 40) _ _ (λ _. tt) λ _.
    either (b ∷ bs) (b == 41) _ _ (λ _. tt) λ _.
    either (b ∷ bs) (b == 48) _ _ (λ q. let e : b ≡ 48 = eqb-true b 48 q in rw e (number_spelt (48 ∷ []) bs)) λ _.
    either (b ∷ bs) (is_digit b) _ _ (λ _. subst (λ xs. IsSpelt xs (number (b ∷ front is_digit bs) (drop (length (front is_digit bs)) bs))) (ap (λ xs. b ∷ xs) (front_split is_digit bs)) (number_spelt (b ∷ front is_digit bs) (drop (length (front is_digit bs)) bs))) λ _.
    either (b ∷ bs) (b == 34) _ _ (λ _. string_spelt b bs) λ _.
    either (b ∷ bs) (b == 124) _ _ (λ _. quoted_spelt b (front is_in_bars bs) (drop (length (front is_in_bars bs)) bs) bs (front_split is_in_bars bs)) λ _.
    either (b ∷ bs) (b == 58) _ _ (λ _. keyword_spelt b (front is_symbol_byte bs) (drop (length (front is_symbol_byte bs)) bs) bs (front_split is_symbol_byte bs)) λ _.
    either (b ∷ bs) (is_symbol_byte b) _ _ (λ _. symbol_spelt (b ∷ front is_symbol_byte bs) (drop (length (front is_symbol_byte bs)) bs) (b ∷ bs) (ap (λ xs. b ∷ xs) (front_split is_symbol_byte bs))) (λ _. tt)

-- each word's bytes are in the text
abbrev pub AreWordsOf : List ℕ → List (ℕ × Lexeme) → Type 0
AreWordsOf text [] = ⊤
AreWordsOf text ((at, word k w) ∷ xs) = (w ≡ bytes_at text k at (length w)) × AreWordsOf text xs
AreWordsOf text ((at, _) ∷ xs) = AreWordsOf text xs

module _ (text : List ℕ) where
  words_with_one : (at b : ℕ) (bs : List ℕ) (p : Piece) (rest : List (ℕ × Lexeme)) → drop at text ≡ b ∷ bs → IsSpelt (b ∷ bs) p → AreWordsOf text rest → AreWordsOf text (before at p rest)
  words_with_one at b bs p rest here spelt more = go p.lexeme spelt
    where
      go : (x : Lexeme) → IsSpeltBy (b ∷ bs) x → AreWordsOf text (before at (piece x p.size) rest)
      go blank h = more
      go opens h = more
      go closes h = more
      go (word k w) h = (h ∙ ap (λ xs. take (length w) (drop (marks k) xs)) (sym here) ∙ ap (take (length w)) (drop-drop (marks k) at text), more)
      go (wrong f) h = tt

  words_from : (n at : ℕ) (bs : List ℕ) → drop at text ≡ bs → AreWordsOf text (lexemes n at bs)
  unfolding lexemes
  words_from n at [] e = tt
  words_from (suc n) at (b ∷ bs) e = words_from n (at + 1) bs (next_here text at b bs e)
  words_from zero at (b ∷ bs) e = words_with_one at b bs (first_piece b bs) _ e (first_spelt b bs) (words_from ((first_piece b bs).size - 1) (at + 1) bs (next_here text at b bs e))

  pub words_of_text : (at : ℕ) → AreWordsOf text (lexemes 0 at (drop at text))
  words_of_text at = words_from 0 at (drop at text) refl

-- a first word has no more bytes than the text
pub word_size : (text : List ℕ) (from at : ℕ) (k : Kind) (w : List ℕ) (rest : List (ℕ × Lexeme)) → lexemes 0 from (drop from text) ≡ (at, word k w) ∷ rest → length w ≤ length text
word_size text from at k w rest e =
    let s = subst (AreWordsOf text) e (words_of_text text from) in
    omega (arith, ap length s.0, length-take (length w) (drop (at + marks k) text), length-drop (at + marks k) text)

-- the end of a list is one byte
abbrev IsOneBy : Lexeme → ℕ → Type 0
IsOneBy closes n = n ≡ 1
IsOneBy _ n = ⊤

abbrev IsOne : Piece → Type 0
IsOne p = IsOneBy p.lexeme p.size

one_of : (c : Bool) (p q : Piece) → IsOne p → IsOne q → IsOne (cond c p q)
one_of true p q h k = h
one_of false p q h k = k

ended_one : (rest : List ℕ) (n : ℕ) (k : Kind) (w : List ℕ) → IsOne (ended rest n (word k w))
ended_one [] n k w = tt
ended_one (b ∷ bs) n k w = one_of (is_symbol_byte b) _ _ tt tt

decimal_one : (digits ds rest : List ℕ) → IsOne (decimal digits ds rest)
decimal_one digits [] rest = tt
decimal_one digits (d ∷ ds) rest = ended_one rest _ Decimal (digits ++ 46 ∷ d ∷ ds)

number_one : (digits rest : List ℕ) → IsOne (number digits rest)
number_one digits [] = tt
number_one digits (b ∷ bs) = one_of (b == 46) _ _ (decimal_one digits (front is_digit bs) (drop (length (front is_digit bs)) bs)) (ended_one (b ∷ bs) (length digits) Numeral digits)

string_one : (o : Option (List ℕ)) → IsOne (string o)
string_one None = tt
string_one (Some body) = tt

quoted_one : (name rest : List ℕ) → IsOne (quoted name rest)
quoted_one name [] = tt
quoted_one name (b ∷ bs) = one_of (b == 124) _ _ tt tt

keyword_one : (name : List ℕ) → IsOne (keyword name)
keyword_one [] = tt
keyword_one (b ∷ bs) = tt

first_one : (b : ℕ) (bs : List ℕ) → IsOne (first_piece b bs)
unfolding first_piece
first_one b bs =
    one_of (is_blank b) _ _ tt (
    one_of (b == 59) _ _ tt (
    one_of (b == 40) _ _ tt (
    one_of (b == 41) _ _ refl (
    one_of (b == 48) _ _ (number_one (48 ∷ []) bs) (
    one_of (is_digit b) _ _ (number_one (b ∷ front is_digit bs) (drop (length (front is_digit bs)) bs)) (
    one_of (b == 34) _ _ (string_one (string_body bs)) (
    one_of (b == 124) _ _ (quoted_one (front is_in_bars bs) (drop (length (front is_in_bars bs)) bs)) (
    one_of (b == 58) _ _ (keyword_one (front is_symbol_byte bs)) (
    one_of (is_symbol_byte b) _ _ tt tt)))))))))

pub close_size : (b : ℕ) (bs : List ℕ) → (first_piece b bs).lexeme ≡ closes → (first_piece b bs).size ≡ 1
close_size b bs e = subst (λ x. IsOneBy x (first_piece b bs).size) e (first_one b bs)
