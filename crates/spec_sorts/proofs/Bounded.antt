-- Where no operation overflows the bounded value is the value.
use Rattle.std.proofs.Common.{◌≡◌, List, [], ◌∷◌, ap, ap₂, ◌∙◌}
use Rattle.std.specs.Prelude.{Result, Ok}
use Rattle.spec_numbers.specs.Fractions.{Fraction, zero_fraction, one_fraction, plus, minus, times, divide}
use Rattle.spec_numbers.specs.Bounds.{Overflow, added, subtracted, multiplied, divided}
use Rattle.spec_numbers.proofs.Bounds.{added_is, subtracted_is, multiplied_is, divided_is}
use Rattle.spec_text.proofs.AnswerLaws.{answer, went}
use Rattle.spec_sorts.specs.Lists.{left}
use Rattle.spec_sorts.specs.Terms.{Head, Minus, Plus, Times, Divide, Parameter, Term, Terms, app, nil, cons}
use Rattle.spec_sorts.specs.Values.{Value, number, number_in, Interpretation}
use Rattle.spec_sorts.specs.TermValues.{by_numbers, head_value, value_at, values_at}
use Rattle.spec_sorts.specs.BoundedValues.{folded, bounded_head, bounded_value, bounded_values}

-- numbers taken to the left
folded_is : (f : Fraction → Fraction → Result Fraction Overflow) (g : Fraction → Fraction → Fraction) → ((x y r : Fraction) → f x y ≡ Ok r → g x y ≡ r) → (d v : Value) (ws : List Value) (u : Value) → folded f v ws ≡ Ok u → left d (by_numbers g) (v ∷ ws) ≡ u
unfolding folded
folded_is f g h d v [] u e = answer (Ok v) u e
folded_is f g h d v (w ∷ ws) u e =
    let a = went (f (number_in v) (number_in w)) _ u e in
    ap (λ q. left d (by_numbers g) (number q ∷ ws)) (h (number_in v) (number_in w) a.first a.was) ∙ folded_is f g h d (number a.first) ws u a.then

-- what a head gives
head_is : (i : Interpretation) (h : Head) (vs : List Value) (u : Value) → bounded_head i h vs ≡ Ok u → head_value i h vs ≡ u
head_is i Plus (v ∷ vs) u e = folded_is added plus added_is (number zero_fraction) v vs u e
head_is i Times (v ∷ vs) u e = folded_is multiplied times multiplied_is (number one_fraction) v vs u e
head_is i Minus (v ∷ w ∷ ws) u e = folded_is subtracted minus subtracted_is v v (w ∷ []) u e
head_is i Divide (v ∷ w ∷ ws) u e = folded_is divided divide divided_is v v (w ∷ []) u e
head_is i h vs u e = answer (Ok (head_value i h vs)) u e

mutual
  unfolding bounded_value bounded_values value_at values_at

  -- where no operation overflows the bounded value is the value
  pub bounded_is : (i : Interpretation) (ps : List Value) (t : Term) (u : Value) → bounded_value i ps t ≡ Ok u → value_at i ps t ≡ u
  bounded_is i ps (app (Parameter k s) ts) u e = answer (Ok _) u e
  bounded_is i ps (app h ts) u e =
      let a = went (bounded_values i ps ts) _ u e in
      ap (head_value i h) (all_bounded i ps ts a.first a.was) ∙ head_is i h a.first u a.then

  all_bounded : (i : Interpretation) (ps : List Value) (ts : Terms) (us : List Value) → bounded_values i ps ts ≡ Ok us → values_at i ps ts ≡ us
  all_bounded i ps nil us e = answer (Ok []) us e
  all_bounded i ps (cons t ts) us e =
      let a = went (bounded_value i ps t) _ us e in
      let b = went (bounded_values i ps ts) _ us a.then in
      ap₂ (λ (v : Value) (vs : List Value). v ∷ vs) (bounded_is i ps t a.first a.was) (all_bounded i ps ts b.first b.was) ∙ answer (Ok (a.first ∷ b.first)) us b.then
