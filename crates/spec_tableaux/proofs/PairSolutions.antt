-- Solutions in pairs of a base and a tilt.
use Rattle.std.proofs.Common.{◌≡◌, ℕ, List, [], ◌∷◌, refl, sym, ◌∙◌, ap}
use Rattle.spec_tableaux.specs.Fields.{Field}
use Rattle.spec_tableaux.specs.Spaces.{Pair, as_space, pairs}
use Rattle.spec_tableaux.specs.Rows.{Entry, Row, sum_of, Solves}

sum_base : {A : Type 0} (f : Field A) (v : ℕ → Pair A) (es : List (Entry A)) → (sum_of (pairs f) v es).base ≡ sum_of (as_space f) (λ y. (v y).base) es
sum_base f v [] = refl
sum_base f v (e ∷ es) = ap (f.plus (f.times e.coefficient (v e.variable).base)) (sum_base f v es)

sum_tilt : {A : Type 0} (f : Field A) (v : ℕ → Pair A) (es : List (Entry A)) → (sum_of (pairs f) v es).tilt ≡ sum_of (as_space f) (λ y. (v y).tilt) es
sum_tilt f v [] = refl
sum_tilt f v (e ∷ es) = ap (f.plus (f.times e.coefficient (v e.variable).tilt)) (sum_tilt f v es)

-- what is a solution in pairs is one in both parts
pub pair_parts : {A : Type 0} (f : Field A) (v : ℕ → Pair A) (rs : List (Row A)) → Solves (pairs f) v rs → Solves (as_space f) (λ y. (v y).base) rs × Solves (as_space f) (λ y. (v y).tilt) rs
pair_parts f v [] h = (tt, tt)
pair_parts f v (r ∷ rs) h =
    let rest = pair_parts f v rs h.1 in
    ((record { is = ap (λ (p : Pair _). p.base) h.0.is ∙ sum_base f v r.entries }, rest.0), (record { is = ap (λ (p : Pair _). p.tilt) h.0.is ∙ sum_tilt f v r.entries }, rest.1))

-- and the other way round
pub parts_pair : {A : Type 0} (f : Field A) (v : ℕ → Pair A) (rs : List (Row A)) → Solves (as_space f) (λ y. (v y).base) rs → Solves (as_space f) (λ y. (v y).tilt) rs → Solves (pairs f) v rs
parts_pair f v [] b t = tt
parts_pair f v (r ∷ rs) b t =
    (record { is = λ i. record { base = (b.0.is ∙ sym (sum_base f v r.entries)) i; tilt = (t.0.is ∙ sym (sum_tilt f v r.entries)) i } }, parts_pair f v rs b.1 t.1)
