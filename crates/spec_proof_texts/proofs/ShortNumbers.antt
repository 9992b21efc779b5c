-- Numbers of few bytes are few.
use Rattle.std.proofs.Common.{◌≡◌, ◌≤◌, ◌<◌, ℕ, zero, suc, ◌+◌, ◌*◌, ◌/◌, ◌^◌, true, false, cond, not, ◌&&◌, List, [], ◌∷◌, ◌++◌, length, map, inl, inr, Contains, refl, ap, ◌∙◌, subst, length-append, arith}
use Rattle.std.specs.Prelude.{◌⊎◌, nat_le}
use Rattle.std.proofs.lemmas.Bool.{cases_eq, and_parts}
use Rattle.std.proofs.lemmas.Bool.Decides.{nat_tests}
use Rattle.std.proofs.lemmas.List.{length-map}
use Rattle.std.proofs.lemmas.List.Elements.{Contains-append_left, Contains-append_right}
use Rattle.spec_text.specs.Bytes.{is_digit}
use Rattle.spec_text.specs.Lexicon.{Consists}
use Rattle.spec_text.specs.Trees.{atom}
use Rattle.spec_text.specs.Printed.{printed}
use Rattle.spec_text.proofs.Members.{first, later, cases, none as no_member, to_image}
use Rattle.spec_numbers.specs.Fractions.{Fraction}
use Rattle.spec_sorts.specs.Numerals.{literal_value, is_wide}
use Rattle.spec_sorts.specs.Terms.{Term, same_fraction}
use Rattle.spec_sorts.proofs.SameTerms.{fractions_decide}
use Rattle.spec_models.specs.Values.{numeral, fraction_tree}
use Rattle.spec_models.proofs.Numerals.{numeral_digits}
use Rattle.spec_proof_texts.specs.Decimals.{last_digits, places, in_last_place, behind_point, literal_text, literal_kind, has_decimal, literal_tree, is_decimal}
use Rattle.spec_proof_texts.proofs.Names.{last_digits_are}
use Rattle.spec_proof_texts.proofs.Known.{number_term, is_long_number}

-- so many bytes, from one on
abbrev bytes_from : ℕ → ℕ → List ℕ
bytes_from zero b = []
bytes_from (suc n) b = b ∷ bytes_from n (suc b)

there_from : (n b c : ℕ) → b ≤ c → c < b + n → Contains (bytes_from n b) c
there_from zero b c low high = absurd (omega (arith, low, high))
there_from (suc n) b c low high = go (cases_eq b c) (λ more. there_from n (suc b) c more (omega (arith, high)))
  where
    go : (b ≡ c) ⊎ (b ≡ c → ⊥) → (suc b ≤ c → Contains (bytes_from n (suc b)) c) → Contains (b ∷ bytes_from n (suc b)) c
    go (inl e) others = subst (Contains (b ∷ bytes_from n (suc b))) e (first b (bytes_from n (suc b)))
    go (inr other) others = later b (bytes_from n (suc b)) c (others (grind (arith, low, other)))

-- the point and the digits
abbrev number_bytes : List ℕ
number_bytes = 46 ∷ bytes_from 10 48

-- words with one of these bytes before them
abbrev prefixed : List ℕ → List (List ℕ) → List (List ℕ)
prefixed [] ws = []
prefixed (c ∷ cs) ws = map (λ w. c ∷ w) ws ++ prefixed cs ws

prefixed_more : (c : ℕ) (cs : List ℕ) (ws : List (List ℕ)) → length (prefixed (c ∷ cs) ws) ≡ length ws + length (prefixed cs ws)
prefixed_more c cs ws = omega (arith, length-append (map (λ w. c ∷ w) ws) (prefixed cs ws), length-map ws (λ w. c ∷ w))

prefixed_count : (n b : ℕ) (ws : List (List ℕ)) → length (prefixed (bytes_from n b) ws) ≡ n * length ws
prefixed_count zero b ws = omega arith
prefixed_count (suc n) b ws = omega (arith, prefixed_more b (bytes_from n (suc b)) ws, prefixed_count n (suc b) ws)

prefixed_there : (cs : List ℕ) (ws : List (List ℕ)) (c : ℕ) (w : List ℕ) → Contains cs c → Contains ws w → Contains (prefixed cs ws) (c ∷ w)
prefixed_there [] ws c w h k = absurd (no_member c h)
prefixed_there (d ∷ cs) ws c w h k = go (cases d cs c h) (λ x. prefixed_there cs ws c w x k)
  where
    go : (d ≡ c) ⊎ Contains cs c → (Contains cs c → Contains (prefixed cs ws) (c ∷ w)) → Contains (map (λ w. d ∷ w) ws ++ prefixed cs ws) (c ∷ w)
    go (inl e) others = Contains-append_left (map (λ w. d ∷ w) ws) (prefixed cs ws) (c ∷ w) (subst (λ b. Contains (map (λ w. d ∷ w) ws) (b ∷ w)) e (to_image (λ w. d ∷ w) ws w k))
    go (inr x) others = Contains-append_right (map (λ w. d ∷ w) ws) (prefixed cs ws) (c ∷ w) (others x)

-- the words of at most so many of these bytes
unfoldable pub short_words : ℕ → List (List ℕ)
short_words zero = [] ∷ []
short_words (suc n) = [] ∷ prefixed number_bytes (short_words n)

words_more : (n : ℕ) → length (short_words (suc n)) ≡ 1 + 11 * length (short_words n)
unfolding short_words
words_more n = omega (arith, prefixed_more 46 (bytes_from 10 48) (short_words n), prefixed_count 10 48 (short_words n))

one_word : length (short_words 0) ≡ 1
unfolding short_words
one_word = refl

few_words : length (short_words 5) ≡ 177156
few_words = omega (arith, words_more 4, words_more 3, words_more 2, words_more 1, words_more 0, one_word)

-- each of the bytes is one of these
abbrev AreOfNumbers : List ℕ → Type 0
AreOfNumbers [] = Unit {0}
AreOfNumbers (b ∷ bs) = Contains number_bytes b × AreOfNumbers bs

of_both : (bs cs : List ℕ) → AreOfNumbers bs → AreOfNumbers cs → AreOfNumbers (bs ++ cs)
of_both [] cs h k = k
of_both (b ∷ bs) cs h k = (h.0, of_both bs cs h.1 k)

digit_there : (b : ℕ) → is_digit b ≡ true → Contains number_bytes b
digit_there b e =
    let parts = and_parts (nat_le 48 b) (nat_le b 57) e in
    let low : 48 ≤ b = let x = parts.0 in grind (arith, nat_tests, x) in
    let high : b < 58 = let x = parts.1 in grind (arith, nat_tests, x) in
    later 46 (bytes_from 10 48) b (there_from 10 48 b low high)

digits_there : (ds : List ℕ) → Consists is_digit ds → AreOfNumbers ds
digits_there [] h = tt
digits_there (d ∷ ds) h = (digit_there d h.0, digits_there ds h.1)

word_there : (n : ℕ) (w : List ℕ) → AreOfNumbers w → length w ≤ n → Contains (short_words n) w
unfolding short_words
word_there zero [] h le = first [] []
word_there zero (b ∷ w) h le = absurd (omega (arith, le))
word_there (suc n) [] h le = first [] (prefixed number_bytes (short_words n))
word_there (suc n) (b ∷ w) h le = later [] (prefixed number_bytes (short_words n)) (b ∷ w) (prefixed_there number_bytes (short_words n) b w h.0 (word_there n w h.1 (omega (arith, le))))

-- digits, a point, and digits
behind_there : (k m : ℕ) → AreOfNumbers (behind_point k m)
behind_there zero m = tt
behind_there (suc k) m = (first 46 (bytes_from 10 48), digits_there (last_digits (suc k) m) (last_digits_are (suc k) m))

text_there : (q : Fraction) → AreOfNumbers (literal_text q)
unfolding literal_text
text_there q =
    let n : ℕ = in_last_place q / 10 ^ places q in
    of_both (numeral n) (behind_point (places q) (in_last_place q)) (digits_there (numeral n) (numeral_digits n)) (behind_there (places q) (in_last_place q))

-- the numbers of at most five bytes, and what other words of digits and points stand for
abbrev pub short_numbers : List Term
short_numbers = map (λ w. number_term (literal_value w)) (short_words 5)

pub short_count : length short_numbers ≡ 177156
short_count = omega (arith, few_words, length-map (short_words 5) (λ w. number_term (literal_value w)))

-- a number is printed as its text
printed_as : (k : ℕ) (w : List ℕ) → printed (atom 0 (literal_kind k) w) ≡ w
printed_as zero w = refl
printed_as (suc k) w = refl

printed_text : (q : Fraction) → has_decimal q ≡ true → printed (literal_tree q) ≡ literal_text q
printed_text q e = ap (λ b. printed (cond b (atom 0 (literal_kind (places q)) (literal_text q)) (fraction_tree q))) e ∙ printed_as (places q) (literal_text q)

pub short_there : (q : Fraction) → is_decimal q ≡ true → is_long_number q ≡ false → Contains short_numbers (number_term q)
unfolding is_decimal
short_there q e short =
    let one = and_parts (has_decimal q) (same_fraction (literal_value (literal_text q)) q && not (is_wide (literal_text q))) e in
    let two = and_parts (same_fraction (literal_value (literal_text q)) q) (not (is_wide (literal_text q))) one.1 in
    let few : length (printed (literal_tree q)) ≤ 5 = grind (arith, nat_tests, short) in
    let le : length (literal_text q) ≤ 5 = subst (λ (w : List ℕ). length w ≤ 5) (printed_text q one.0) few in
    let same = (fractions_decide (literal_value (literal_text q)) q).0 two.0 in
    subst (λ x. Contains short_numbers (number_term x)) same (to_image (λ w. number_term (literal_value w)) (short_words 5) (literal_text q) (word_there 5 (literal_text q) (text_there q) le))
