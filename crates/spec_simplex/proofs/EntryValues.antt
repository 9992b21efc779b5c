-- The variables of a form have the value of the sum of their entries.
use Rattle.std.proofs.Common.{◌≡◌, ℕ, List, [], ◌∷◌, refl, sym, ◌∙◌, ap}
use Rattle.spec_numbers.specs.Fractions.{Fraction, plus, times}
use Rattle.spec_sorts.specs.Terms.{Term}
use Rattle.spec_arithmetic.specs.Forms.{variables_value}
use Rattle.spec_tableaux.specs.Spaces.{Pair, as_space, pairs}
use Rattle.spec_tableaux.specs.Rows.{Entry, sum_of}
use Rattle.spec_tableaux.specs.Numbers.{Number, numbers, fractions}
use Rattle.spec_simplex.specs.Points.{Point, bases, tilts}
use Rattle.spec_simplex.specs.Entries.{IsEntry, AreEntries, AreValues}

-- the products of a variable and of its entry
one_product : {V : Type 0} (part : V → Fraction) (at : ℕ → Term) (n : Term → V) (v : ℕ → V) (e : Entry Number) (x : Term × Fraction) → IsEntry at e x → v e.variable ≡ n (at e.variable)
    → times x.1 (part (n x.0)) ≡ times e.coefficient.fraction (part (v e.variable))
one_product part at n v e x is same = λ i. times (sym is.coefficient i) (part ((ap n (sym is.variable) ∙ sym same) i))

pub number_sums : (at : ℕ → Term) (n : Term → Number) (v : ℕ → Number) (es : List (Entry Number)) (xs : List (Term × Fraction)) → AreEntries at es xs → AreValues at n v es
    → variables_value (λ t. (n t).fraction) xs ≡ (sum_of (as_space numbers) v es).fraction
unfolding variables_value numbers fractions
number_sums at n v [] [] h k = refl
number_sums at n v [] (x ∷ xs) h k = absurd h
number_sums at n v (e ∷ es) [] h k = absurd h
number_sums at n v (e ∷ es) (x ∷ xs) h k =
    λ i. plus (one_product (λ (q : Number). q.fraction) at n v e x h.0 k.0 i) (number_sums at n v es xs h.1 k.1 i)

pub base_sums : (at : ℕ → Term) (p : Point) (v : ℕ → Pair Number) (es : List (Entry Number)) (xs : List (Term × Fraction)) → AreEntries at es xs → AreValues at p v es
    → variables_value (bases p) xs ≡ (sum_of (pairs numbers) v es).base.fraction
unfolding variables_value numbers fractions
base_sums at p v [] [] h k = refl
base_sums at p v [] (x ∷ xs) h k = absurd h
base_sums at p v (e ∷ es) [] h k = absurd h
base_sums at p v (e ∷ es) (x ∷ xs) h k =
    λ i. plus (one_product (λ (q : Pair Number). q.base.fraction) at p v e x h.0 k.0 i) (base_sums at p v es xs h.1 k.1 i)

pub tilt_sums : (at : ℕ → Term) (p : Point) (v : ℕ → Pair Number) (es : List (Entry Number)) (xs : List (Term × Fraction)) → AreEntries at es xs → AreValues at p v es
    → variables_value (tilts p) xs ≡ (sum_of (pairs numbers) v es).tilt.fraction
unfolding variables_value numbers fractions
tilt_sums at p v [] [] h k = refl
tilt_sums at p v [] (x ∷ xs) h k = absurd h
tilt_sums at p v (e ∷ es) [] h k = absurd h
tilt_sums at p v (e ∷ es) (x ∷ xs) h k =
    λ i. plus (one_product (λ (q : Pair Number). q.tilt.fraction) at p v e x h.0 k.0 i) (tilt_sums at p v es xs h.1 k.1 i)
