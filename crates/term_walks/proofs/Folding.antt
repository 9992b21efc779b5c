-- One step of taking numbers to the left.
use Rattle.std.proofs.Common.{◌≡◌, ℕ, ◌+◌, ◌<◌, ◌≤◌, List, [], ◌∷◌, length, get_or, drop, sym, ap, ◌∙◌}
use Rattle.std.specs.Prelude.{Result, Ok, Err}
use Rattle.std.proofs.lemmas.List.{drop_more}
use Rattle.std.proofs.Math.ListN.{drop_of_length-le}
use Rattle.spec_numbers.specs.Fractions.{Fraction}
use Rattle.spec_numbers.specs.Bounds.{Overflow}
use Rattle.spec_text.specs.Bytes.{Name}
use Rattle.spec_text.specs.Answers.{◌>>=◌}
use Rattle.spec_sorts.specs.Values.{Value, number, number_in}
use Rattle.spec_sorts.specs.BoundedValues.{folded}
use Rattle.term_walks.specs.declared.values.Value.{Value as CodeValue}
use Rattle.term_walks.specs.Valuations.{value_meant, values_meant}

-- two numbers are taken, and then the others with what they give
step : (f : Fraction → Fraction → Result Fraction Overflow) (v w : Value) (ws : List Value) (x y : Fraction) (r : Result Fraction Overflow)
    → r ≡ f x y → x ≡ number_in v → y ≡ number_in w → (r >>= λ q. folded f (number q) ws) ≡ folded f v (w ∷ ws)
unfolding ◌>>=◌ folded
step f v w ws x y r e left right = ap (λ a. a >>= λ q. folded f (number q) ws) e ∙ (λ i. f (left i) (right i) >>= λ q. folded f (number q) ws)

pub step_ok : (f : Fraction → Fraction → Result Fraction Overflow) (v w : Value) (ws : List Value) (x y q : Fraction)
    → (let r : Result Fraction Overflow = Ok q in r) ≡ f x y → x ≡ number_in v → y ≡ number_in w → folded f (number q) ws ≡ folded f v (w ∷ ws)
unfolding ◌>>=◌
step_ok f v w ws x y q e left right = step f v w ws x y (Ok q) e left right

pub step_err : (f : Fraction → Fraction → Result Fraction Overflow) (v w : Value) (ws : List Value) (x y : Fraction) (o : Overflow)
    → (let r : Result Fraction Overflow = Err o in r) ≡ f x y → x ≡ number_in v → y ≡ number_in w → (let r : Result Value Overflow = Err o in r) ≡ folded f v (w ∷ ws)
unfolding ◌>>=◌
step_err f v w ws x y o e left right = step f v w ws x y (Err o) e left right

-- two numbers alone
pub pair_ok : (f : Fraction → Fraction → Result Fraction Overflow) (v w : Value) (x y q : Fraction)
    → (let r : Result Fraction Overflow = Ok q in r) ≡ f x y → x ≡ number_in v → y ≡ number_in w → (let r : Result Value Overflow = Ok (number q) in r) ≡ folded f v (w ∷ [])
unfolding folded
pair_ok f v w x y q e left right = step_ok f v w [] x y q e left right

-- what is left of the code's values
pub left_more : (sorts : List Name) (f : Fraction → Fraction → Result Fraction Overflow) (v : Value) (ws : List CodeValue) (k : ℕ) (w : CodeValue) → k < length ws → w ≡ get_or ws k w
    → folded f v (values_meant sorts (drop k ws)) ≡ folded f v (value_meant sorts w ∷ values_meant sorts (drop (k + 1) ws))
left_more sorts f v ws k w lt is =
    ap (λ l. folded f v (values_meant sorts l)) (drop_more ws k w lt) ∙ ap (λ x. folded f v (value_meant sorts x ∷ values_meant sorts (drop (k + 1) ws))) (sym is)

pub left_none : (sorts : List Name) (f : Fraction → Fraction → Result Fraction Overflow) (v : Value) (ws : List CodeValue) (k : ℕ) → length ws ≤ k
    → folded f v (values_meant sorts (drop k ws)) ≡ Ok v
unfolding folded
left_none sorts f v ws k le = ap (λ l. folded f v (values_meant sorts l)) (drop_of_length-le ws le)
