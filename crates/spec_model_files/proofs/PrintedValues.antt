-- What is printed of a value within the bounds is read as that value.
use Rattle.std.proofs.Common.{◌≡◌, ℕ, zero, suc, ◌+◌, ◌*◌, ◌<◌, ne_eqb, Bool, true, false, cond, ℤ, pos, negsuc, List, [], ◌∷◌, ◌++◌, length, Some, None, refl, sym, ap, ◌∙◌, subst, arith, append-nil, drop}
use Rattle.std.specs.Prelude.{codes, not, nat_eq, nat_le, nat_lt, ◌||◌, ◌^◌, unsigned_abs, Ok}
use Rattle.std.proofs.lemmas.Bool.{eqb-true, and_parts}
use Rattle.std.proofs.lemmas.Bool.Decides.{nat_tests}
use Rattle.std.proofs.lemmas.List.{drop_all}
use Rattle.spec_text.specs.declared.Kind.{Kind}
use Rattle.spec_text.specs.declared.Kind.TheVariants.{Simple, Quoted}
use Rattle.spec_text.specs.Bytes.{Name}
use Rattle.spec_text.specs.Answers.{◌>>=◌}
use Rattle.spec_text.specs.Trees.{Tree, atom, offset_of}
use Rattle.spec_text.proofs.AnswerLaws.{joined}
use Rattle.spec_text.proofs.General.{bytes_itself}
use Rattle.spec_text.proofs.Printing.{kind_of, moved}
use Rattle.spec_numbers.specs.Fractions.{Fraction, IsReduced, opposite, times, inverse, divide, lowest, whole}
use Rattle.spec_numbers.specs.Bounds.{is_small, fits}
use Rattle.spec_numbers.proofs.Integers.{times_whole}
use Rattle.spec_numbers.proofs.Lowest.{reduced-same}
use Rattle.spec_sorts.specs.Numerals.{number_after, trimmed, point_digits, digits_number, is_wide}
use Rattle.spec_sorts.specs.Terms.{Sort, Truth, Number, Declared}
use Rattle.spec_sorts.specs.Values.{Value, truth, number, element, HasSort}
use Rattle.spec_sorts.specs.Signatures.{Signature}
use Rattle.spec_models.specs.Values.{in_list, word_tree, numeral, numeral_tree, sort_tree, whole_tree, fraction_tree, element_word, element_tree, value_tree}
use Rattle.spec_models.specs.Meaning.{IsDeclaredIn, IsSortIn}
use Rattle.spec_models.proofs.Numerals.{numeral_number, numeral_digits, front_all, literal_numeral, element_read}
use Rattle.spec_models.proofs.Values.{symbol_kind}
use Rattle.spec_model_files.specs.declared.ModelKind.TheVariants.{BadShape, WrongSort, NumberWide}
use Rattle.spec_model_files.specs.Faults.{wrong, require, found_or}
use Rattle.spec_model_files.specs.Values.{symbol_read, is_this_sort, names_sort, sort_read, WrittenNumber, is_zero, literal, negation, quotient, divisor_read, number_read, Written, written_truth, written_number, written_element, element_read as element_in, written_in, value_of_sort, element_bound, is_within, value_read}
use Rattle.spec_model_files.specs.Limits.{IsValueWithin}

-- a number that is written without loss
abbrev exact : Fraction → WrittenNumber
exact q = record { fraction = q; is_within = true }

-- the digits of a numeral are all before its point
no_point : (n : ℕ) → point_digits (numeral n) ≡ []
no_point n =
    ap (λ (w : List ℕ). trimmed (drop (suc (length w)) (numeral n))) (front_all (numeral n) (numeral_digits n))
    ∙ ap trimmed (drop_all (suc (length (numeral n))) (numeral n) (omega arith))

numeral_digits_number : (n : ℕ) → digits_number (numeral n) ≡ n
numeral_digits_number n =
    (λ i. number_after 0 (front_all (numeral n) (numeral_digits n) i ++ no_point n i))
    ∙ ap (number_after 0) (append-nil (numeral n))
    ∙ numeral_number n

-- a small numeral is read exactly
numeral_exact : (n : ℕ) → is_small n ≡ true → literal (numeral n) ≡ exact (whole (pos n))
unfolding is_small
numeral_exact n small = λ i. record { fraction = literal_numeral n i; is_within = not (narrow i) }
  where
    below : nat_le (2 ^ 127) n ≡ false
    below = grind (arith, nat_tests, small)

    narrow : is_wide (numeral n) ≡ false
    narrow =
        (λ i. nat_le (2 ^ 127) (numeral_digits_number n i) || nat_le 39 (length (no_point n i)))
        ∙ ap (λ b. b || false) below

whole_read : (z : ℤ) → is_small (unsigned_abs z) ≡ true → (at : ℕ) → number_read (moved at (whole_tree z)) ≡ Ok (exact (whole z))
unfolding number_read ◌>>=◌ require opposite
whole_read (pos n) small at = ap Ok (numeral_exact n small)
whole_read (negsuc n) small at = ap (λ x. Ok (negation x)) (numeral_exact (suc n) small)

-- the quotient that a fraction in lowest terms is written as
quotient_itself : (q : Fraction) → IsReduced q → divide (whole q.num) (whole (pos q.den)) ≡ q
unfolding times inverse
quotient_itself q h =
    ap (times (whole q.num)) (turned q.den h.positive)
    ∙ (λ i. lowest (times_whole q.num i) (once q.den i))
    ∙ reduced-same q h
  where
    turned : (d : ℕ) → 0 < d → inverse (whole (pos d)) ≡ record { num = pos 1; den = d }
    turned zero positive = absurd (omega (arith, positive))
    turned (suc k) positive = refl

    once : (d : ℕ) → 1 * d ≡ d
    once d = omega arith

-- what is read of a divisor that is not zero
not_zero : (d : ℕ) → 0 < d → not (is_zero (whole (pos d))) ≡ true
not_zero zero h = absurd (omega (arith, h))
not_zero (suc d) h = ap not (ne_eqb (suc d) 0 (λ e. omega (arith, e)))

fraction_parts : (q : Fraction) → fits q ≡ true → (is_small (unsigned_abs q.num) ≡ true) × (is_small q.den ≡ true)
unfolding fits
fraction_parts q e = and_parts (is_small (unsigned_abs q.num)) (is_small q.den) e

-- a fraction
module _ (q : Fraction) (h : IsReduced q) (small : fits q ≡ true) where
  quotient_exact : quotient (exact (whole q.num)) (exact (whole (pos q.den))) ≡ exact q
  quotient_exact = λ i. record { fraction = quotient_itself q h i; is_within = (ap fits (quotient_itself q h) ∙ small) i }

  whole_is : q.den ≡ 1 → exact (whole q.num) ≡ exact q
  whole_is e = ap (λ d. exact (record { num = q.num; den = d })) (sym e)

  -- as a number that is written
  quotient_read : (at : ℕ) → number_read (moved at (in_list (word_tree (codes "/") ∷ whole_tree q.num ∷ numeral_tree q.den ∷ []))) ≡ Ok (exact q)
  unfolding number_read require divisor_read
  quotient_read at =
      joined _ _ tt _ refl
      (joined _ _ (exact (whole q.num)) _ (whole_read q.num (fraction_parts q small).0 _)
      (joined _ _ (exact (whole (pos q.den))) _ (ap Ok (numeral_exact q.den (fraction_parts q small).1))
      (joined _ _ tt _ (ap (λ b. require b at BadShape) (not_zero q.den h.positive))
      (ap Ok quotient_exact))))

  written_quotient : (at : ℕ) → written_in (moved at (in_list (word_tree (codes "/") ∷ whole_tree q.num ∷ numeral_tree q.den ∷ []))) ≡ Ok (written_number (exact q))
  unfolding written_in
  written_quotient at = joined _ _ (exact q) _ (quotient_read at) refl

  written_whole : (z : ℤ) → q.num ≡ z → q.den ≡ 1 → (at : ℕ) → written_in (moved at (whole_tree z)) ≡ Ok (written_number (exact q))
  unfolding written_in
  written_whole (pos n) e one at = ap (λ x. Ok (written_number x)) (numeral_exact n (subst (λ z. is_small (unsigned_abs z) ≡ true) e (fraction_parts q small).0) ∙ ap (λ z. exact (whole z)) (sym e) ∙ whole_is one)
  written_whole (negsuc n) e one at =
      joined _ _ (exact q) _ (whole_read (negsuc n) (subst (λ z. is_small (unsigned_abs z) ≡ true) e (fraction_parts q small).0) at ∙ ap (λ z. Ok (exact (whole z))) (sym e) ∙ ap Ok (whole_is one)) refl

  written_fraction : (at : ℕ) → written_in (moved at (fraction_tree q)) ≡ Ok (written_number (exact q))
  written_fraction at = go (nat_eq q.den 1) (eqb-true q.den 1)
    where
      go : (c : Bool) → (c ≡ true → q.den ≡ 1) → written_in (moved at (cond c (whole_tree q.num) (in_list (word_tree (codes "/") ∷ whole_tree q.num ∷ numeral_tree q.den ∷ [])))) ≡ Ok (written_number (exact q))
      go true e = written_whole q.num refl (e refl) at
      go false e = written_quotient at

-- a sort that a signature has is named by its text
sort_itself : (s : Sort) (t : Sort) → s ≡ t → is_this_sort s (Ok t) ≡ true
sort_itself Truth t e = subst (λ x. is_this_sort Truth (Ok x) ≡ true) e refl
sort_itself Number t e = subst (λ x. is_this_sort Number (Ok x) ≡ true) e refl
sort_itself (Declared n) t e = subst (λ x. is_this_sort (Declared n) (Ok x) ≡ true) e (bytes_itself n)

declared_named : (g : Signature) (n : Name) → IsDeclaredIn g n → (k : Kind) (at : ℕ) → names_sort g (Declared n) (record { at = at; kind = k; bytes = n }) ≡ true
declared_named g n h k at = ap (is_this_sort (Declared n)) (h.sort at) ∙ bytes_itself n

-- a symbol is read as itself
pub quoted_read : (n : Name) (at : ℕ) → symbol_read (atom at (kind_of Quoted n) n) ≡ Ok (record { at = at; kind = kind_of Quoted n; bytes = n })
quoted_read n at = ap (λ b. cond b (Ok (record { at = at; kind = kind_of Quoted n; bytes = n })) (wrong at BadShape)) (symbol_kind n)

pub sort_itself_read : (g : Signature) (s : Sort) → IsSortIn g s → (at : ℕ) → sort_read g s (moved at (sort_tree s)) ≡ Ok tt
unfolding sort_read require ◌>>=◌
sort_itself_read g Truth h at = refl
sort_itself_read g Number h at = refl
sort_itself_read g (Declared n) h at = joined _ _ _ _ (quoted_read n at) (ap (λ b. require b at WrongSort) (declared_named g n h (kind_of Quoted n) at))

-- an element
written_element_read : (n : Name) (k at : ℕ) → written_in (moved at (element_tree n k)) ≡ Ok (written_element k (record { at = at + 1 + 2 + 1 + length (element_word k) + 1; kind = kind_of Quoted n; bytes = n }))
unfolding written_in require element_in found_or
written_element_read n k at =
    joined _ _ tt _ refl
    (joined _ _ (record { at = at + 1 + 2 + 1; kind = Simple; bytes = element_word k }) _ refl
    (joined _ _ k _ (ap (λ o. found_or o (at + 1 + 2 + 1) BadShape) (element_read k))
    (joined _ _ _ _ (quoted_read n (at + 1 + 2 + 1 + length (element_word k) + 1)) refl)))

-- what was written as a value of a sort within the bounds is that value
value_by : (g : Signature) (s : Sort) (t : Tree) (w : Written) (v : Value) → written_in t ≡ Ok w → value_of_sort g s w ≡ Some v → is_within w ≡ true → value_read g s t ≡ Ok v
unfolding value_read found_or require
value_by g s t w v e is within =
    joined _ _ w _ e
    (joined _ _ v _ (ap (λ o. found_or o (offset_of t) WrongSort) is)
    (joined _ _ tt _ (ap (λ b. require b (offset_of t) NumberWide) within) refl))

-- and so is what is printed
pub printed_value_read : (g : Signature) (s : Sort) (v : Value) → IsSortIn g s → HasSort s v → IsValueWithin v → (at : ℕ) → value_read g s (moved at (value_tree v)) ≡ Ok v
unfolding written_in
printed_value_read g Truth (truth true) d h w at = value_by g Truth (moved at (value_tree (truth true))) (written_truth true) (truth true) refl refl refl
printed_value_read g Truth (truth false) d h w at = value_by g Truth (moved at (value_tree (truth false))) (written_truth false) (truth false) refl refl refl
printed_value_read g Truth (number q) d h w at = absurd h
printed_value_read g Truth (element n k) d h w at = absurd h
printed_value_read g Number (truth c) d h w at = absurd h
printed_value_read g Number (number q) d h w at = value_by g Number (moved at (fraction_tree q)) (written_number (exact q)) (number q) (written_fraction q h w at) refl refl
printed_value_read g Number (element n k) d h w at = absurd h
printed_value_read g (Declared n) (truth c) d h w at = absurd h
printed_value_read g (Declared n) (number q) d h w at = absurd h
printed_value_read g (Declared n) (element x k) d h w at =
    subst (λ y. value_read g (Declared n) (moved at (element_tree y k)) ≡ Ok (element y k)) h
    (value_by g (Declared n) (moved at (element_tree n k)) _ (element n k) (written_element_read n k at) (ap (λ b. cond b (Some (element n k)) None) (declared_named g n d (kind_of Quoted n) _)) (small k w))
  where
    small : (j : ℕ) → j < element_bound → nat_lt j element_bound ≡ true
    small j lt = grind (arith, nat_tests, lt)
