-- What is printed of a value has that value, and is made of words.
use Rattle.std.proofs.Common.{◌≡◌, ℕ, zero, suc, ◌*◌, ◌<◌, Bool, true, false, cond, ℤ, pos, negsuc, List, [], ◌∷◌, ◌++◌, Some, None, length, ◌+◌, refl, sym, ap, ap₂, ◌∙◌, subst, arith}
use Rattle.std.specs.Prelude.{codes, not, nat_eq}
use Rattle.std.proofs.lemmas.Bool.{eqb-true, not-true}
use Rattle.spec_text.specs.declared.Kind.TheVariants.{Numeral, Simple, Quoted, Reserved}
use Rattle.spec_text.specs.Bytes.{Name, is_digit, is_symbol_byte, among, reserved_words}
use Rattle.spec_text.specs.Lexicon.{numeral as numeral_word, simple_symbol, reserved_word, quoted_symbol}
use Rattle.spec_text.specs.Shapes.{is_symbol}
use Rattle.spec_text.specs.Printed.{all_pass, is_bare, printed}
use Rattle.spec_text.specs.Trees.{Tree, atom, none, more}
use Rattle.spec_text.proofs.General.{three_parts}
use Rattle.spec_text.proofs.Tests.{passes_consists}
use Rattle.spec_text.proofs.Words.{IsWord, HasWords}
use Rattle.spec_text.proofs.Printing.{kind_of, moved, moved_all}
use Rattle.spec_numbers.specs.Fractions.{Fraction, IsReduced, opposite, times, inverse, divide, lowest, whole}
use Rattle.spec_numbers.proofs.Integers.{times_whole}
use Rattle.spec_numbers.proofs.Lowest.{reduced-same}
use Rattle.spec_sorts.specs.Terms.{Sort, Truth, Number, Declared}
use Rattle.spec_sorts.specs.Values.{Value, truth, number, element, HasSort}
use Rattle.spec_sorts.specs.Lists.{left}
use Rattle.spec_sorts.specs.TermValues.{by_numbers}
use Rattle.spec_sorts.specs.Theory.{look_up, is_of_theory}
use Rattle.spec_sorts.specs.Meaning.{theory_values, difference, Meaning, Bindings, value_by, name_value}
use Rattle.spec_models.specs.Values.{trees_of, in_list, word_tree, numeral, numeral_tree, IsName, sort_tree, whole_tree, fraction_tree, element_word, element_tree, value_tree}
use Rattle.spec_models.specs.Models.{parameter}
use Rattle.spec_models.specs.Meaning.{element_number, element_of, element_in, element_or, model_value, model_values}
use Rattle.spec_models.proofs.Numerals.{literal_numeral, element_read, numeral_is, numeral_digits, digits_in_symbols}

-- the quotient that a fraction in lowest terms is written as
quotient : (q : Fraction) → IsReduced q → divide (whole q.num) (whole (pos q.den)) ≡ q
unfolding times inverse
quotient q h =
    ap (times (whole q.num)) (turned q.den h.positive)
    ∙ (λ i. lowest (times_whole q.num i) (once q.den i))
    ∙ reduced-same q h
  where
    turned : (d : ℕ) → 0 < d → inverse (whole (pos d)) ≡ record { num = pos 1; den = d }
    turned zero positive = absurd (omega (arith, positive))
    turned (suc k) positive = refl

    once : (d : ℕ) → 1 * d ≡ d
    once d = omega arith

-- a symbol stays one when it is printed
pub symbol_kind : (n : Name) → is_symbol (kind_of Quoted n) ≡ true
symbol_kind n = go (is_bare n)
  where
    go : (c : Bool) → is_symbol (cond c Simple Quoted) ≡ true
    go true = refl
    go false = refl

-- the text of an element
element_found : (s : Name) (k at x y : ℕ) → element_in (atom at Reserved (codes "as")) (more (atom x Simple (element_word k)) (more (atom y (kind_of Quoted s) s) none)) ≡ Some (element s k)
element_found s k at x y =
    ap (λ c. cond c (element_of s (element_number (element_word k))) None) (symbol_kind s)
    ∙ ap (element_of s) (element_read k)

module _ (m : Meaning) (b : Bindings) where
  -- wherever a tree is printed, it has this value
  abbrev pub Means : Tree → Value → Type 0
  Means t v = (at : ℕ) → model_value m b (moved at t) ≡ v

  -- and so have trees, in their order
  abbrev pub AllMean : List Tree → List Value → Type 0
  AllMean ts vs = (at : ℕ) → model_values m b (moved_all at (trees_of ts)) ≡ vs

  pub none_means : AllMean [] []
  unfolding model_values
  none_means at = refl

  pub more_mean : (t : Tree) (v : Value) (ts : List Tree) (vs : List Value) → Means t v → AllMean ts vs → AllMean (t ∷ ts) (v ∷ vs)
  unfolding model_values
  more_mean t v ts vs first others at = ap₂ (λ (x : Value) (xs : List Value). x ∷ xs) (first at) (others (at + length (printed t) + 1))

  numeral_means : (n : ℕ) → Means (numeral_tree n) (number (whole (pos n)))
  unfolding model_value
  numeral_means n at = ap number (literal_numeral n)

  element_means : (s : Name) (k : ℕ) → Means (element_tree s k) (element s k)
  unfolding model_value
  element_means s k at = ap (λ o. element_or o (truth false)) (element_found s k (at + 1) (at + 1 + 2 + 1) (at + 1 + 2 + 1 + length (element_word k) + 1))

  -- the names of the theories are not bound
  module _ (hidden : (n : Name) → is_of_theory n ≡ true → look_up b n ≡ None) where
    -- a theory's word alone
    word_means : (w : Name) (f : List Value → Value) → is_of_theory w ≡ true → look_up theory_values w ≡ Some f → (vs : List Value) → name_value m b w vs ≡ f vs
    word_means w f of_theory is vs = λ i. value_by (hidden w of_theory i) (is i) (m w vs) vs

    -- a theory's word before others
    pub list_means : (w : Name) (f : List Value → Value) (t : Tree) (ts : List Tree) (vs : List Value) → is_of_theory w ≡ true → look_up theory_values w ≡ Some f → AllMean (t ∷ ts) vs → Means (in_list (word_tree w ∷ t ∷ ts)) (f vs)
    unfolding model_value
    list_means w f t ts vs of_theory is args at = ap (name_value m b w) (args _) ∙ word_means w f of_theory is vs

    pub yes_means : Means (word_tree (codes "true")) (truth true)
    unfolding model_value
    yes_means at = word_means (codes "true") _ refl refl []

    no_means : Means (word_tree (codes "false")) (truth false)
    unfolding model_value
    no_means at = word_means (codes "false") _ refl refl []

    whole_means : (z : ℤ) → Means (whole_tree z) (number (whole z))
    unfolding opposite
    whole_means (pos n) at = numeral_means n at
    whole_means (negsuc n) at =
        list_means (codes "-") difference (numeral_tree (suc n)) [] _ refl refl (more_mean (numeral_tree (suc n)) _ [] [] (numeral_means (suc n)) none_means) at ∙ below n
      where
        below : (n : ℕ) → number (opposite (whole (pos (suc n)))) ≡ number (whole (negsuc n))
        below n = refl

    fraction_means : (q : Fraction) → IsReduced q → Means (fraction_tree q) (number q)
    fraction_means q h at = go (nat_eq q.den 1) (eqb-true q.den 1)
      where
        go : (c : Bool) → (c ≡ true → q.den ≡ 1) → model_value m b (moved at (cond c (whole_tree q.num) (in_list (word_tree (codes "/") ∷ whole_tree q.num ∷ numeral_tree q.den ∷ [])))) ≡ number q
        go true e = whole_means q.num at ∙ ap (λ d. number (record { num = q.num; den = d })) (sym (e refl))
        go false e =
            list_means (codes "/") (λ vs. left (truth false) (by_numbers divide) vs) (whole_tree q.num) (numeral_tree q.den ∷ []) (number (whole q.num) ∷ number (whole (pos q.den)) ∷ []) refl refl
            (more_mean (whole_tree q.num) (number (whole q.num)) (numeral_tree q.den ∷ []) (number (whole (pos q.den)) ∷ []) (whole_means q.num) (more_mean (numeral_tree q.den) (number (whole (pos q.den))) [] [] (numeral_means q.den) none_means)) at
            ∙ ap number (quotient q h)

    -- what is printed of a value has this value
    pub value_means : (s : Sort) (v : Value) → HasSort s v → Means (value_tree v) v
    value_means Truth (truth true) h = yes_means
    value_means Truth (truth false) h = no_means
    value_means Truth (number q) h = absurd h
    value_means Truth (element n k) h = absurd h
    value_means Number (truth c) h = absurd h
    value_means Number (number q) h = fraction_means q h
    value_means Number (element n k) h = absurd h
    value_means (Declared n) (truth c) h = absurd h
    value_means (Declared n) (number q) h = absurd h
    value_means (Declared n) (element x k) h = element_means x k

-- a word that may be written without bars
pub bare_word : (b : ℕ) (bs : List ℕ) → is_bare (b ∷ bs) ≡ true → IsWord Simple (b ∷ bs)
bare_word b bs e =
    let p = three_parts (not (is_digit b)) (all_pass is_symbol_byte (b ∷ bs)) (not (among reserved_words (b ∷ bs))) e in
    (b ∷ bs, simple_symbol b bs (not-true (is_digit b) p.0) (passes_consists is_symbol_byte (b ∷ bs) p.1) (not-true (among reserved_words (b ∷ bs)) p.2))

-- a word that is kept for solvers, with a number
pub element_bare : (k : ℕ) → IsWord Simple (element_word k)
element_bare k = (element_word k, simple_symbol 64 (101 ∷ numeral k) refl (refl, (refl, digits_in_symbols (numeral k) (numeral_digits k))) refl)

pub numeral_spelled : (n : ℕ) → IsWord Numeral (numeral n)
numeral_spelled n = (numeral n, numeral_word (numeral n) (numeral_is n))

pub name_spelled : (n : Name) → IsName n → IsWord Quoted n
name_spelled n h = (124 ∷ n ++ 124 ∷ [], quoted_symbol n h)

pub sort_spelled : (s : Sort) → ((n : Name) → s ≡ Declared n → IsName n) → HasWords (sort_tree s)
sort_spelled Truth h = bare_word 66 _ refl
sort_spelled Number h = bare_word 82 _ refl
sort_spelled (Declared n) h = name_spelled n (h n refl)

whole_spelled : (z : ℤ) → HasWords (whole_tree z)
whole_spelled (pos n) = numeral_spelled n
whole_spelled (negsuc n) = (bare_word 45 [] refl, (numeral_spelled (suc n), tt))

fraction_spelled : (q : Fraction) → HasWords (fraction_tree q)
fraction_spelled q = go (nat_eq q.den 1)
  where
    go : (c : Bool) → HasWords (cond c (whole_tree q.num) (in_list (word_tree (codes "/") ∷ whole_tree q.num ∷ numeral_tree q.den ∷ [])))
    go true = whole_spelled q.num
    go false = (bare_word 47 [] refl, (whole_spelled q.num, (numeral_spelled q.den, tt)))

-- a value of a sort with a name is made of words
pub value_spelled : (s : Sort) (v : Value) → ((n : Name) → s ≡ Declared n → IsName n) → HasSort s v → HasWords (value_tree v)
value_spelled Truth (truth true) d h = bare_word 116 _ refl
value_spelled Truth (truth false) d h = bare_word 102 _ refl
value_spelled Truth (number q) d h = absurd h
value_spelled Truth (element n k) d h = absurd h
value_spelled Number (truth c) d h = absurd h
value_spelled Number (number q) d h = fraction_spelled q
value_spelled Number (element n k) d h = absurd h
value_spelled (Declared n) (truth c) d h = absurd h
value_spelled (Declared n) (number q) d h = absurd h
value_spelled (Declared n) (element x k) d h = ((codes "as", reserved_word (codes "as") refl), (element_bare k, (name_spelled x (subst IsName h (d n refl)), tt)))

-- and so is a parameter
pub parameter_bare : (k : ℕ) → IsWord Simple (parameter k)
parameter_bare k = (parameter k, simple_symbol 64 (120 ∷ numeral k) refl (refl, (refl, digits_in_symbols (numeral k) (numeral_digits k))) refl)
