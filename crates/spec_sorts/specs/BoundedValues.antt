-- The value of a term where each operation on numbers stays within 128 bits, or the first one that does not. The bound
-- and the order are own.
use Rattle.std.specs.Prelude.{false, List, [], ◌∷◌, get_or, Result, Ok}
use Rattle.spec_numbers.specs.Fractions.{Fraction}
use Rattle.spec_numbers.specs.Bounds.{Overflow, added, subtracted, multiplied, divided}
use Rattle.spec_text.specs.Answers.{◌>>=◌}
use Rattle.spec_sorts.specs.Terms.{Head, Minus, Plus, Times, Divide, Parameter, Term, Terms, app, nil, cons}
use Rattle.spec_sorts.specs.Values.{Value, truth, number, number_in, Interpretation}
use Rattle.spec_sorts.specs.TermValues.{head_value}

-- a number taken with others to the left, or the first operation that overflows
unfoldable pub folded : (Fraction → Fraction → Result Fraction Overflow) → Value → List Value → Result Value Overflow
folded f v [] = Ok v
folded f v (w ∷ ws) = f (number_in v) (number_in w) >>= λ q. folded f (number q) ws

-- what a head gives at its arguments' values, or its first operation that overflows
abbrev pub bounded_head : Interpretation → Head → List Value → Result Value Overflow
bounded_head i Plus (v ∷ vs) = folded added v vs
bounded_head i Times (v ∷ vs) = folded multiplied v vs
bounded_head i Minus (v ∷ w ∷ ws) = folded subtracted v (w ∷ [])
bounded_head i Divide (v ∷ w ∷ ws) = folded divided v (w ∷ [])
bounded_head i h vs = Ok (head_value i h vs)

-- all arguments come first, from left to right, also those that `ite` does not choose; then the head's own operations
unfoldable mutual
  -- the value of a term whose parameters have these values, or its first operation that overflows
  pub bounded_value : Interpretation → List Value → Term → Result Value Overflow
  bounded_value i ps (app (Parameter k s) ts) = Ok (get_or ps k (truth false))
  bounded_value i ps (app h ts) = bounded_values i ps ts >>= λ vs. bounded_head i h vs

  -- the values of terms, in their order, or the first operation that overflows
  pub bounded_values : Interpretation → List Value → Terms → Result (List Value) Overflow
  bounded_values i ps nil = Ok []
  bounded_values i ps (cons t ts) = bounded_value i ps t >>= λ v. bounded_values i ps ts >>= λ vs. Ok (v ∷ vs)
