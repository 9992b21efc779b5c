-- A number that serves the variables that are there serves all.
use Rattle.std.proofs.Common.{◌≡◌, ◌⊎◌, ◌+◌, ◌<◌, ◌≤◌, ℕ, false, inl, inr, List, [], All, Option, Some, None, refl, sym, subst, arith}
use Rattle.std.proofs.lemmas.Bool.{cases_lt}
use Rattle.std.proofs.lemmas.List.Elements.{All-contains}
use Rattle.spec_text.proofs.Members.{none as no_member}
use Rattle.spec_tableaux.specs.Spaces.{Pair}
use Rattle.spec_tableaux.specs.Ranges.{Range}
use Rattle.spec_tableaux.specs.Numbers.{Number, numbers}
use Rattle.spec_causes.specs.Causes.{IsHalfIn, IsEpsilon}
use Rattle.spec_tableaux.specs.Halves.{is_less}
use Rattle.simplex_bounds.specs.declared.bounds.Bound.{Bound}
use Rattle.simplex_bounds.specs.declared.bounds.Side.{Side}
use Rattle.simplex_bounds.specs.declared.bounds.Side.TheVariants.{Lower, Upper}
use Rattle.simplex_bounds.specs.Held.{strongest, value_in, ranges_in}
use Rattle.simplex_bounds.proofs.Keeping.{strongest_is_held}
use Rattle.simplex_numbers.specs.Values.{IsSmaller, IsAboveNone, StaysOff}
use Rattle.simplex_numbers.proofs.Keeping.{off_smaller}
use Rattle.simplex_numbers.proofs.Epsilons.{none_smaller}

-- a variable that is not there has no bounds
unbounded : (held : List Bound) (n : ℕ) → All (λ (b : Bound). b.variable < n) held → (side : Side) (y : ℕ) → n ≤ y → strongest side y held ≡ None
unbounded held n there side y out = by (strongest side y held) refl
  where
    by : (o : Option Bound) → strongest side y held ≡ o → o ≡ None
    by None e = refl
    by (Some b) e =
        let h = strongest_is_held side y held b e in
        absurd (omega (arith, out, h.2, All-contains (λ (b : Bound). b.variable < n) held b there h.0))

module _ (held : List Bound) (v : ℕ → Pair Number) where
  -- what is so of the variables that are there, and of each that has no bounds, is so of all
  of_all : (P : Range (Pair Number) → Pair Number → Type 0) → ((x : Pair Number) → P (record { lower = None; upper = None }) x) → (n : ℕ) → All (λ (b : Bound). b.variable < n) held
      → ((y : ℕ) → y < n → P (ranges_in held y) (v y)) → (y : ℕ) → P (ranges_in held y) (v y)
  of_all P none n there h y = elim (cases_lt y n) [
    | inl lt ↦ h y lt
    | inr out ↦
        subst (λ (o : Option Bound). P (record { lower = value_in o; upper = value_in (strongest Upper y held) }) (v y)) (sym (unbounded held n there Lower y out))
        (subst (λ (o : Option Bound). P (record { lower = None; upper = value_in o }) (v y)) (sym (unbounded held n there Upper y out)) (none (v y)))
  ]

  -- one more, where what is so of the others before comes to it
  of_one_more : (P Q : Range (Pair Number) → Pair Number → Type 0) → ((r : Range (Pair Number)) (x : Pair Number) → P r x → Q r x) → (n : ℕ) (r : Range (Pair Number)) (x : Pair Number)
      → ((y : ℕ) → y < n → P (ranges_in held y) (v y)) → Q r x → r ≡ ranges_in held n → x ≡ v n → (y : ℕ) → y < n + 1 → Q (ranges_in held y) (v y)
  of_one_more P Q goes n r x h one range value y lt = elim (cases_lt y n) [
    | inl less ↦ goes (ranges_in held y) (v y) (h y less)
    | inr out ↦
        let same : n ≡ y = omega (arith, lt, out) in
        subst (λ z. Q (ranges_in held z) (v z)) same (subst (λ z. Q (ranges_in held n) z) value (subst (λ z. Q z x) range one))
  ]

  -- a number at which what is off a bound stays off it
  pub everywhere : (e : Number) (n : ℕ) → All (λ (b : Bound). b.variable < n) held → ((y : ℕ) → y < n → StaysOff e (ranges_in held y) (v y)) → (y : ℕ) → StaysOff e (ranges_in held y) (v y)
  everywhere e = of_all (StaysOff e) (λ x. (tt, tt))

  pub one_more : (e d : Number) (n : ℕ) (r : Range (Pair Number)) (x : Pair Number) → ((y : ℕ) → y < n → StaysOff e (ranges_in held y) (v y)) → IsSmaller d e → StaysOff d r x
      → r ≡ ranges_in held n → x ≡ v n → (y : ℕ) → y < n + 1 → StaysOff d (ranges_in held y) (v y)
  one_more e d n r x h small = of_one_more (StaysOff e) (StaysOff d) (λ q z. off_smaller e d q z small) n r x h

  -- a number that is above no half of a number at which a value comes to a bound of it
  pub none_more : (e d : Number) (n : ℕ) (r : Range (Pair Number)) (x : Pair Number) → ((y : ℕ) → y < n → IsAboveNone (IsHalfIn (ranges_in held y) (v y)) e) → IsSmaller d e
      → IsAboveNone (IsHalfIn r x) d → r ≡ ranges_in held n → x ≡ v n → (y : ℕ) → y < n + 1 → IsAboveNone (IsHalfIn (ranges_in held y) (v y)) d
  none_more e d n r x h small =
      of_one_more (λ q z. IsAboveNone (IsHalfIn q z) e) (λ q z. IsAboveNone (IsHalfIn q z) d) (λ q z. none_smaller (IsHalfIn q z) e d small) n r x h

  pub epsilon_of_all : (e : Number) (n : ℕ) → All (λ (b : Bound). b.variable < n) held → (e ≡ numbers.one) ⊎ ((y : ℕ) × IsHalfIn (ranges_in held y) (v y) e) → is_less numbers.one e ≡ false
      → ((y : ℕ) → y < n → IsAboveNone (IsHalfIn (ranges_in held y) (v y)) e) → IsEpsilon (ranges_in held) v [] e
  epsilon_of_all e n there one_of most_one most_each = record {
    one_of = elim one_of [ inl is ↦ inl is | inr half ↦ inr (inl half) ];
    most_one = most_one;
    most_each = of_all (λ q z. IsAboveNone (IsHalfIn q z) e) (λ x h half. elim half [ inl n ↦ absurd n | inr n ↦ absurd n ]) n there most_each;
    most_apart = λ h half. absurd (no_member half.lesser half.lesser_in);
  }
