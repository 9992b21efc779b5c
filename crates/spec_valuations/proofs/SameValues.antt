-- The test of values tells whether they are one.
use Rattle.std.proofs.Common.{◌≡◌, true, ◌&&◌, List, [], ◌∷◌, refl, sym, ap, ◌∙◌}
use Rattle.std.specs.Bool.{Decides}
use Rattle.std.proofs.lemmas.Bool.{false≢true, and_parts}
use Rattle.spec_sorts.specs.Values.{Value, same_value, same_values}
use Rattle.spec_equality.proofs.Values.{one_value, value_itself}

-- the test of two values
pub value-Decides : (v w : Value) → Decides (same_value v w) (v ≡ w)
value-Decides v w = (one_value v w, λ e. ap (same_value v) (sym e) ∙ value_itself v)

-- lists that pass the test are one
pub one_values : (vs ws : List Value) → same_values vs ws ≡ true → vs ≡ ws
one_values [] [] e = refl
one_values (v ∷ vs) (w ∷ ws) e =
    let h = and_parts (same_value v w) (same_values vs ws) e in
    λ i. one_value v w h.0 i ∷ one_values vs ws h.1 i
one_values [] (w ∷ ws) e = absurd (false≢true e)
one_values (v ∷ vs) [] e = absurd (false≢true e)

-- and a list passes it with itself
pub values_itself : (vs : List Value) → same_values vs vs ≡ true
values_itself [] = refl
values_itself (v ∷ vs) = λ i. value_itself v i && values_itself vs i
