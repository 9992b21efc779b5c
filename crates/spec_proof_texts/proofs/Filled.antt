-- Terms that can be read back whole remain such with such arguments for their parameters.
use Rattle.std.proofs.Common.{◌≡◌, ◌≤◌, ℕ, zero, suc, Bool, true, false, ◌&&◌, List, [], ◌∷◌, get_or, cond, Some, None, refl, ap, ◌∙◌, arith}
use Rattle.std.specs.Prelude.{not, nat_le}
use Rattle.std.specs.List.{AllByRecursion}
use Rattle.std.proofs.lemmas.Bool.{false≢true, and_parts}
use Rattle.std.proofs.lemmas.Bool.Decides.{nat_tests}
use Rattle.spec_text.specs.declared.Fault.TheVariants.{NotLinear}
use Rattle.spec_sorts.specs.Terms.{Head, Minus, Times, Divide, Literal, Parameter, Term, Terms, app, nil, cons, list_of, no_term, filled, filled_all}
use Rattle.spec_sorts.specs.Theory.{is_constant, are_constant, keeps_constant, is_divisor, is_zero_divisor, count_of, product_fault, quotient_fault}
use Rattle.spec_arithmetic.specs.Numbers.{IsLinearHead, IsLinear, AreLinear}
use Rattle.spec_proof_texts.specs.Readable.{HasDecimals, HaveDecimals, IsReadableWhole}
use Rattle.spec_proof_texts.proofs.ReadableHeads.{Each, not_fault, no_term_readable, IsDivisor, divisors_taken, divisors_free}

-- how many of terms are no constants
abbrev not_constant : Terms → ℕ
not_constant ts = count_of (λ t. not (is_constant t)) (list_of ts)

module _ (vs : List Term) where
  -- a constant term has no parameters
  mutual
    unfolding is_constant are_constant filled filled_all

    constant_filled : (t : Term) → is_constant t ≡ true → is_constant (filled vs t) ≡ true
    constant_filled (app (Parameter k s) ts) e = absurd (false≢true e)
    constant_filled (app h ts) e = let p = and_parts (keeps_constant h) (are_constant ts) e in (λ i. p.0 i && constants_filled ts p.1 i)

    constants_filled : (ts : Terms) → are_constant ts ≡ true → are_constant (filled_all vs ts) ≡ true
    constants_filled nil e = refl
    constants_filled (cons t ts) e = let p = and_parts (is_constant t) (are_constant ts) e in (λ i. constant_filled t p.0 i && constants_filled ts p.1 i)

  -- so no more terms than before are no constants
  count_filled : (ts : Terms) → not_constant (filled_all vs ts) ≤ not_constant ts
  unfolding filled_all
  count_filled nil = omega arith
  count_filled (cons t ts) = go (is_constant t) (is_constant (filled vs t)) (constant_filled t) (count_filled ts)
    where
      go : (a b : Bool) → (a ≡ true → b ≡ true) → not_constant (filled_all vs ts) ≤ not_constant ts
          → cond (not b) (suc (not_constant (filled_all vs ts))) (not_constant (filled_all vs ts)) ≤ cond (not a) (suc (not_constant ts)) (not_constant ts)
      go true true h le = le
      go true false h le = absurd (false≢true (h refl))
      go false true h le = omega (arith, le)
      go false false h le = omega (arith, le)

  product_filled : (ts : Terms) → product_fault (list_of ts) ≡ None → product_fault (list_of (filled_all vs ts)) ≡ None
  product_filled ts e = go (not_constant (filled_all vs ts)) (not_constant ts) (count_filled ts) e
    where
      go : (m n : ℕ) → m ≤ n → cond (nat_le n 1) None (Some NotLinear) ≡ None → cond (nat_le m 1) None (Some NotLinear) ≡ None
      go m n le e = at (nat_le n 1) refl e
        where
          at : (b : Bool) → nat_le n 1 ≡ b → cond b None (Some NotLinear) ≡ None → cond (nat_le m 1) None (Some NotLinear) ≡ None
          at true x e = let few : nat_le m 1 ≡ true = grind (arith, nat_tests, x, le) in ap (λ c. cond c None (Some NotLinear)) few
          at false x e = absurd (not_fault NotLinear e)

  -- a divisor has none either
  divisor_filled : (d : Term) → is_divisor d ≡ true → (is_divisor (filled vs d) ≡ true) × (is_zero_divisor (filled vs d) ≡ is_zero_divisor d)
  unfolding is_divisor is_zero_divisor filled filled_all
  divisor_filled (app (Literal q) ts) e = (refl, refl)
  divisor_filled (app Minus (cons d nil)) e = divisor_filled d e
  divisor_filled (app Divide (cons d (cons f nil))) e =
      let p = and_parts (is_divisor d) (is_divisor f) e in
      let one = divisor_filled d p.0 in
      let two = divisor_filled f p.1 in
      ((λ i. one.0 i && two.0 i), one.1)
  divisor_filled _ e = absurd (false≢true e)

  divisors_filled : (ds : Terms) → AllByRecursion IsDivisor (list_of ds) → AllByRecursion IsDivisor (list_of (filled_all vs ds))
  unfolding filled_all
  divisors_filled nil a = tt
  divisors_filled (cons d ds) a = let k = divisor_filled d a.0.divisor in (record { divisor = k.0; some = k.1 ∙ a.0.some }, divisors_filled ds a.1)

  quotient_filled : (ts : Terms) → quotient_fault (list_of ts) ≡ None → quotient_fault (list_of (filled_all vs ts)) ≡ None
  unfolding filled_all
  quotient_filled nil e = refl
  quotient_filled (cons t ds) e = divisors_free (list_of (filled_all vs ds)) (divisors_filled ds (divisors_taken (list_of ds) e))

  head_filled : (h : Head) (ts : Terms) → IsLinearHead h (list_of ts) → IsLinearHead h (list_of (filled_all vs ts))
  head_filled Times ts e = product_filled ts e
  head_filled Divide ts e = quotient_filled ts e
  head_filled _ ts e = tt

-- the argument for a parameter
argument_readable : (vs : List Term) (k : ℕ) → Each vs → IsReadableWhole (get_or vs k no_term)
argument_readable [] k a = no_term_readable
argument_readable (v ∷ vs) zero a = a.0
argument_readable (v ∷ vs) (suc k) a = argument_readable vs k a.1

module _ (vs : List Term) (each : Each vs) where
  mutual
    unfolding IsLinear AreLinear HasDecimals HaveDecimals filled filled_all

    -- a term with such arguments for its parameters
    pub filled_readable : (t : Term) → IsReadableWhole t → IsReadableWhole (filled vs t)
    filled_readable (app (Parameter k s) ts) a = argument_readable vs k each
    filled_readable (app h ts) a = let r = all_readable ts (a.0.1, a.1.1) in ((head_filled vs h ts a.0.0, r.0), (a.1.0, r.1))

    all_readable : (ts : Terms) → AreLinear ts × HaveDecimals ts → AreLinear (filled_all vs ts) × HaveDecimals (filled_all vs ts)
    all_readable nil a = (tt, tt)
    all_readable (cons t ts) a =
        let one = filled_readable t (a.0.0, a.1.0) in
        let rest = all_readable ts (a.0.1, a.1.1) in
        ((one.0, rest.0), (one.1, rest.1))
