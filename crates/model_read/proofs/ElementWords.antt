-- Words of elements: numerals write each number in one way.
use Rattle.std.proofs.Common.{◌≡◌, ◌≢◌, ◌==◌, ℕ, zero, suc, ◌+◌, ◌*◌, ◌-◌, ◌<◌, ◌≤◌, ◌⊎◌, inl, inr, Bool, true, false, List, [], ◌∷◌, ◌++◌, length, Option, Some, None, refl, sym, ap, ◌∙◌, subst, arith}
use Rattle.std.specs.Prelude.{◌&&◌, ◌^◌, MatchBool}
use Rattle.std.specs.Option.{SomeIff}
use Rattle.std.specs.Bool.{Decides}
use Rattle.std.specs.Str.{bytes_eq}
use Rattle.std.proofs.lemmas.Bool.{false≢true}
use Rattle.std.proofs.lemmas.Bool.Decides.{nat_tests}
use Rattle.std.proofs.lemmas.Slice.Eq.{bytes_eq-Decides}
use Rattle.std.proofs.lemmas.List.{length-append, nil_from_length}
use Rattle.spec_text.specs.Bytes.{is_digit}
use Rattle.spec_text.specs.Lexicon.{Consists, IsNumeral, only_zero, digits}
use Rattle.spec_sorts.specs.Numerals.{number_after}
use Rattle.spec_sorts.proofs.General.{number_along}
use Rattle.spec_text.specs.Shapes.{only_if}
use Rattle.spec_models.specs.Values.{numeral}
use Rattle.spec_models.specs.Meaning.{element_number}
use Rattle.model_read.specs.Values.{element_digits, HasIndex}
use Rattle.spec_models.proofs.Numerals.{numeral_number, numeral_is}
use Rattle.term_reader.proofs.Digits.{number_grows}

digit_within : (d : ℕ) → is_digit d ≡ true → (48 ≤ d) × (d ≤ 57)
digit_within d e = grind (arith, nat_tests, e)

-- the first of digits is not 0
abbrev HasNoZero : List ℕ → Type 0
HasNoZero [] = Unit {0}
HasNoZero (d ∷ ds) = d ≢ 48

-- a list is empty, or ends with something
ends_with : (xs : List ℕ) → (xs ≡ []) ⊎ ((ys : List ℕ) × (y : ℕ) × (xs ≡ ys ++ y ∷ []))
ends_with [] = inl refl
ends_with (x ∷ xs) = go (ends_with xs)
  where
    go : (xs ≡ []) ⊎ ((ys : List ℕ) × (y : ℕ) × (xs ≡ ys ++ y ∷ [])) → (x ∷ xs ≡ []) ⊎ ((ys : List ℕ) × (y : ℕ) × (x ∷ xs ≡ ys ++ y ∷ []))
    go (inl e) = inr ([], x, ap (λ (zs : List ℕ). x ∷ zs) e)
    go (inr p) = inr (x ∷ p.0, p.1, ap (λ (zs : List ℕ). x ∷ zs) p.2)

front_consists : (ys : List ℕ) (y : ℕ) → Consists is_digit (ys ++ y ∷ []) → Consists is_digit ys
front_consists [] y h = tt
front_consists (x ∷ xs) y h = (h.0, front_consists xs y h.1)

last_digit : (ys : List ℕ) (y : ℕ) → Consists is_digit (ys ++ y ∷ []) → is_digit y ≡ true
last_digit [] y h = h.0
last_digit (x ∷ xs) y h = last_digit xs y h.1

front_no_zero : (ys : List ℕ) (y : ℕ) → HasNoZero (ys ++ y ∷ []) → HasNoZero ys
front_no_zero [] y h = tt
front_no_zero (x ∷ xs) y h = h

-- digits that do not begin with 0 write a number above 0
positive : (xs : List ℕ) (x : ℕ) → Consists is_digit (x ∷ xs) → x ≢ 48 → 0 < number_after 0 (x ∷ xs)
positive xs x h some = let w = digit_within x h.0 in let low = w.0 in omega (arith, low, some, number_grows (0 * 10 + (x - 48)) xs)

no_number : (xs : List ℕ) → Consists is_digit xs → HasNoZero xs → number_after 0 xs ≡ 0 → xs ≡ []
no_number [] h n e = refl
no_number (x ∷ xs) h n e = absurd (omega (arith, e, positive xs x h n))

with_last : (ys : List ℕ) (y : ℕ) → number_after 0 (ys ++ y ∷ []) ≡ number_after 0 ys * 10 + (y - 48)
with_last ys y = number_along 0 ys (y ∷ [])

-- one number is written in one way, up to so many digits
abbrev IsWrittenOnce : ℕ → Type 0
IsWrittenOnce n = (xs ys : List ℕ) → length xs ≤ n → Consists is_digit xs → Consists is_digit ys → HasNoZero xs → HasNoZero ys → number_after 0 xs ≡ number_after 0 ys → xs ≡ ys

-- by the last digits, and those before them
by_last : (k : ℕ) → IsWrittenOnce k → (us vs : List ℕ) (u v : ℕ) → length (us ++ u ∷ []) ≤ suc k → Consists is_digit (us ++ u ∷ []) → Consists is_digit (vs ++ v ∷ []) → HasNoZero (us ++ u ∷ []) → HasNoZero (vs ++ v ∷ [])
    → number_after 0 (us ++ u ∷ []) ≡ number_after 0 (vs ++ v ∷ []) → us ++ u ∷ [] ≡ vs ++ v ∷ []
by_last k once us vs u v le cu cv nu nv e =
    let wu = digit_within u (last_digit us u cu) in
    let wv = digit_within v (last_digit vs v cv) in
    let u0 = wu.0 in
    let u1 = wu.1 in
    let v0 = wv.0 in
    let v1 = wv.1 in
    let sums : number_after 0 us * 10 + (u - 48) ≡ number_after 0 vs * 10 + (v - 48) = sym (with_last us u) ∙ e ∙ with_last vs v in
    let lasts : u ≡ v = omega (arith, sums, u0, u1, v0, v1) in
    let fronts : number_after 0 us ≡ number_after 0 vs = omega (arith, sums, u0, u1, v0, v1) in
    let shorter : length us ≤ k = omega (arith, le, length-append us (u ∷ [])) in
    let same : us ≡ vs = once us vs shorter (front_consists us u cu) (front_consists vs v cv) (front_no_zero us u nu) (front_no_zero vs v nv) fronts in
    λ i. same i ++ lasts i ∷ []

written_once : (n : ℕ) → IsWrittenOnce n
written_once zero xs ys le cx cy nx ny e =
    let nothing : xs ≡ [] = nil_from_length xs (omega (arith, le)) in
    nothing ∙ sym (no_number ys cy ny (sym e ∙ ap (number_after 0) nothing))
written_once (suc k) xs ys le cx cy nx ny e = go (ends_with xs) (ends_with ys) (written_once k)
  where
    go : (xs ≡ []) ⊎ ((us : List ℕ) × (u : ℕ) × (xs ≡ us ++ u ∷ [])) → (ys ≡ []) ⊎ ((vs : List ℕ) × (v : ℕ) × (ys ≡ vs ++ v ∷ [])) → IsWrittenOnce k → xs ≡ ys
    go (inl p) q once = p ∙ sym (no_number ys cy ny (sym e ∙ ap (number_after 0) p))
    go (inr p) (inl q) once = no_number xs cx nx (e ∙ ap (number_after 0) q) ∙ sym q
    go (inr p) (inr q) once =
        p.2
        ∙ by_last k once p.0 q.0 p.1 q.1 (subst (λ (zs : List ℕ). length zs ≤ suc k) p.2 le) (subst (Consists is_digit) p.2 cx) (subst (Consists is_digit) q.2 cy) (subst HasNoZero p.2 nx) (subst HasNoZero q.2 ny)
        (ap (number_after 0) (sym p.2) ∙ e ∙ ap (number_after 0) q.2)
        ∙ sym q.2

-- numerals of one number are one
numerals_same : (xs ys : List ℕ) → IsNumeral xs → IsNumeral ys → number_after 0 xs ≡ number_after 0 ys → xs ≡ ys
numerals_same _ _ only_zero only_zero e = refl
numerals_same _ _ only_zero (digits d ds some h) e = absurd (omega (arith, e, positive ds d h some))
numerals_same _ _ (digits d ds some h) only_zero e = absurd (omega (arith, e, positive ds d h some))
numerals_same _ _ (digits d ds some h) (digits c cs other g) e = written_once (length (d ∷ ds)) (d ∷ ds) (c ∷ cs) (omega arith) h g some other e

-- digits are the numeral of their number, or are no numeral
pub numeral_test : (ds : List ℕ) (b : Bool) → (b ≡ true → IsNumeral ds) → (b ≡ false → IsNumeral ds → ⊥) → b ≡ bytes_eq ds (numeral (number_after 0 ds))
numeral_test ds true holds lacks =
    let n = number_after 0 ds in
    sym ((bytes_eq-Decides ds (numeral n)).1 (numerals_same ds (numeral n) (holds refl) (numeral_is n) (sym (numeral_number n))))
numeral_test ds false holds lacks = go (bytes_eq ds (numeral (number_after 0 ds))) (bytes_eq-Decides ds (numeral (number_after 0 ds)))
  where
    go : (b : Bool) → Decides b (ds ≡ numeral (number_after 0 ds)) → false ≡ b
    go false d = refl
    go true d = absurd (lacks refl (subst IsNumeral (sym (d.0 refl)) (numeral_is (number_after 0 ds))))

-- no digits
pub nothing_numeral : (ds : List ℕ) → ds ≡ [] → false ≡ bytes_eq ds (numeral (number_after 0 ds))
nothing_numeral ds e = numeral_test ds false (λ f. absurd (false≢true f)) (λ f h. go ds h e)
  where
    go : (xs : List ℕ) → IsNumeral xs → xs ≡ [] → ⊥
    go _ only_zero e = cc
    go _ (digits d xs some h) e = cc

-- 0, alone or before others
pub zero_numeral : (ds os : List ℕ) (d : ℕ) (b : Bool) → ds ≡ d ∷ os → d ≡ 48 → (b ≡ true → os ≡ []) → (b ≡ false → os ≡ [] → ⊥) → b ≡ bytes_eq ds (numeral (number_after 0 ds))
zero_numeral ds os d b e z holds lacks = numeral_test ds b (λ f. subst IsNumeral (sym (e ∙ λ i. z i ∷ holds f i)) only_zero) (λ f h. lacks f (go ds h e))
  where
    go : (xs : List ℕ) → IsNumeral xs → xs ≡ d ∷ os → os ≡ []
    go _ only_zero e = cc
    go _ (digits c cs some h) e = let c_is : c ≡ d = cc in absurd (some (c_is ∙ z))

-- digits that do not begin with 0
pub digits_numeral : (ds os : List ℕ) (d : ℕ) (b : Bool) → ds ≡ d ∷ os → (d ≡ 48 → ⊥) → (b ≡ true → Consists is_digit ds) → (b ≡ false → Consists is_digit ds → ⊥) → b ≡ bytes_eq ds (numeral (number_after 0 ds))
digits_numeral ds os d b e some holds lacks =
    numeral_test ds b (λ f. subst IsNumeral (sym e) (digits d os some (subst (Consists is_digit) e (holds f)))) (λ f h. lacks f (go ds h))
  where
    go : (xs : List ℕ) → IsNumeral xs → Consists is_digit xs
    go _ only_zero = (refl, tt)
    go _ (digits c cs some h) = h

-- the number of an element, by the digits of its word
abbrev by_digits : Option (List ℕ) → Option ℕ
by_digits (Some ds) = Some (number_after 0 ds)
by_digits None = None

word_split : (w : List ℕ) → element_number w ≡ by_digits (element_digits w)
unfolding element_digits
word_split [] = refl
word_split (a ∷ []) = go (a == 64)
  where
    go : (b : Bool) → only_if (b && false) (number_after 0 []) ≡ by_digits None
    go true = refl
    go false = refl
word_split (a ∷ b ∷ ds) = go ((a == 64) && ((b == 101) && bytes_eq ds (numeral (number_after 0 ds))))
  where
    go : (c : Bool) → only_if c (number_after 0 ds) ≡ by_digits (only_if c ds)
    go true = refl
    go false = refl

pub word_numbered : (w ds : List ℕ) (k : Option ℕ) → Some ds ≡ element_digits w → SomeIff k (number_after 0 ds < 2 ^ 64) (number_after 0 ds) → HasIndex k (element_number w)
word_numbered w ds k e h = record { number = number_after 0 ds; is = word_split w ∙ ap by_digits (sym e); index = h }

pub word_unnumbered : (w : List ℕ) → None ≡ element_digits w → element_number w ≡ None
word_unnumbered w e = word_split w ∙ ap by_digits (sym e)

-- what a test of digits says
pub tested_digits : (b : Bool) (xs : List ℕ) → MatchBool b (Consists is_digit xs) (Consists is_digit xs → ⊥) → (b ≡ true → Consists is_digit xs) × (b ≡ false → Consists is_digit xs → ⊥)
tested_digits true xs h = (λ e. h, λ e. absurd (false≢true (sym e)))
tested_digits false xs h = (λ e. absurd (false≢true e), λ e. h)
