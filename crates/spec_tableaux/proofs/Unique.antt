-- The solved form at given basic variables is one.
use Rattle.std.proofs.Common.{◌≡◌, ℕ, suc, Bool, true, false, List, [], ◌∷◌, refl, sym, ◌∙◌, ap, arith, cond, ◌==◌, ◌||◌, subst}
use Rattle.std.proofs.lemmas.Bool.Decides.{nat_tests}
use Rattle.spec_tableaux.specs.Spaces.{Space, IsSpace, TellsApart}
use Rattle.spec_tableaux.specs.Rows.{Entry, sum_of, coefficient_of, Row, AreDistinct, is_basic, row_of, Solves}
use Rattle.spec_tableaux.specs.SolvedForms.{AllVariables, unit_values, IsTidy, extended, AllRowVariables, IsNonbasic, IsSolved}
use Rattle.spec_tableaux.proofs.Sums.{plus_origin_right}
use Rattle.spec_tableaux.proofs.Exchanges.{row_of_basic, row_holds}
use Rattle.spec_tableaux.proofs.SolvedForms.{over_from, tidy_row, over_row}
use Rattle.spec_tableaux.proofs.Steps.{agreeing_sums}

sum_none : {A V : Type 0} (s : Space A V) → IsSpace s → (x : ℕ) (u : V) (es : List (Entry A)) → AllVariables (λ y. (y == x) ≡ false) es → sum_of s (unit_values s x u) es ≡ s.origin
sum_none s l x u [] o = refl
sum_none s l x u (e ∷ es) o =
    (λ i. s.plus (s.scale e.coefficient (cond (o.0 i) u s.origin)) (sum_none s l x u es o.1 i)) ∙ ap (λ z. s.plus z s.origin) (l.scale_origin e.coefficient) ∙ l.plus_origin s.origin

-- at the unit_values of x a sum is the coefficient_of of x
pub sum_unit : {A V : Type 0} (s : Space A V) → IsSpace s → (x : ℕ) (u : V) (at : ℕ) (es : List (Entry A)) → IsTidy s.numbers at es → sum_of s (unit_values s x u) es ≡ s.scale (coefficient_of s.numbers x es) u
sum_unit s l x u at [] t = sym (l.zero_scale u)
sum_unit s l x u at (e ∷ es) t = by (e.variable == x) refl (sum_unit s l x u (suc e.variable) es t.2)
  where
    by : (q : Bool) → (e.variable == x) ≡ q → sum_of s (unit_values s x u) es ≡ s.scale (coefficient_of s.numbers x es) u
        → s.plus (s.scale e.coefficient (cond (e.variable == x) u s.origin)) (sum_of s (unit_values s x u) es) ≡ s.scale (cond q e.coefficient (coefficient_of s.numbers x es)) u
    by true h g = (λ i. s.plus (s.scale e.coefficient (cond (h i) u s.origin)) (sum_none s l x u es (over_from s (suc e.variable) x es (let k : e.variable ≡ x = grind (arith, nat_tests) in omega arith) t.2) i)) ∙ plus_origin_right s l _
    by false h g = (λ i. s.plus (s.scale e.coefficient (cond (h i) u s.origin)) (g i)) ∙ ap (λ z. s.plus z (s.scale (coefficient_of s.numbers x es) u)) (l.scale_origin e.coefficient) ∙ l.plus_origin _

-- entries whose sum is nothing for all values are none
pub no_entries : {A V : Type 0} (s : Space A V) → IsSpace s → (u : V) → TellsApart s u → (at : ℕ) (es : List (Entry A)) → IsTidy s.numbers at es → ((v : ℕ → V) → sum_of s v es ≡ s.origin) → es ≡ []
no_entries s l u tells at [] t h = refl
no_entries s l u tells at (e ∷ es) t h = absurd (
    let first : coefficient_of s.numbers e.variable (e ∷ es) ≡ e.coefficient = ap (λ q. cond q e.coefficient (coefficient_of s.numbers e.variable es)) (let k : (e.variable == e.variable) ≡ true = grind (arith, nat_tests) in k) in
    let naught : e.coefficient ≡ s.numbers.zero = tells.same e.coefficient s.numbers.zero (ap (λ c. s.scale c u) (sym first) ∙ sym (sum_unit s l e.variable u at (e ∷ es) t) ∙ h (unit_values s e.variable u) ∙ sym (l.zero_scale u)) in
    let z : s.numbers.is_zero e.coefficient ≡ true = ap s.numbers.is_zero naught ∙ l.numbers.zero_is_zero in
    let w = t.1 in cc)

extended_rows : {A V : Type 0} (s : Space A V) (all rs : List (Row A)) (f : ℕ → V) → AreDistinct rs → AllRowVariables (IsNonbasic all) rs
    → ((b : ℕ) → is_basic b rs ≡ true → extended s all f b ≡ sum_of s f (row_of b rs).entries) → Solves s (extended s all f) rs
extended_rows s all [] f d o h = tt
extended_rows s all (r ∷ rs) f d o h = (
  record { is = first ∙ sym (agreeing_sums s (IsNonbasic all) (extended s all f) f r.entries o.0 (λ y k. ap (λ q. cond q (sum_of s f (row_of y all).entries) (f y)) k)) },
  extended_rows s all rs f d.1 o.1 (λ b k. rest b k (r.basic == b) refl (h b)),
)
  where
    same : (a : ℕ) → (a == a) ≡ true
    same a = grind (arith, nat_tests)

    first : extended s all f r.basic ≡ sum_of s f r.entries
    first = h r.basic (ap (λ q. q || is_basic r.basic rs) (same r.basic)) ∙ ap (λ q. sum_of s f (cond q r (row_of r.basic rs)).entries) (same r.basic)

    rest : (b : ℕ) → is_basic b rs ≡ true → (q : Bool) → (r.basic == b) ≡ q → ((q || is_basic b rs) ≡ true → extended s all f b ≡ sum_of s f (cond q r (row_of b rs)).entries) → extended s all f b ≡ sum_of s f (row_of b rs).entries
    rest b k true e g = absurd (let w : r.basic ≡ b = grind (arith, nat_tests) in let z : is_basic b rs ≡ false = subst (λ y. is_basic y rs ≡ false) w d.0 in cc)
    rest b k false e g = g k

-- for all values of the nonbasic variables there is a solution
pub extended_solves : {A V : Type 0} (s : Space A V) (rs : List (Row A)) (f : ℕ → V) → IsSolved s.numbers rs → Solves s (extended s rs f) rs
extended_solves s rs f i = extended_rows s rs rs f i.distinct i.nonbasic (λ b k. ap (λ q. cond q (sum_of s f (row_of b rs).entries) (f b)) k)

-- rows with the same solutions and the same basic variables have the same coefficients
pub one_solved_form : {A V : Type 0} (s : Space A V) → IsSpace s → (u : V) → TellsApart s u → (rs qs : List (Row A)) → IsSolved s.numbers rs → IsSolved s.numbers qs → ((y : ℕ) → is_basic y rs ≡ is_basic y qs)
    → ((v : ℕ → V) → Solves s v rs → Solves s v qs) → (b x : ℕ) → is_basic b rs ≡ true → coefficient_of s.numbers x (row_of b rs).entries ≡ coefficient_of s.numbers x (row_of b qs).entries
one_solved_form s l u tells rs qs i j same h b x m =
    let v = extended s rs (unit_values s x u) in
    let solves : Solves s v rs = extended_solves s rs (unit_values s x u) i in
    let others : Solves s v qs = h v solves in
    let free : (y : ℕ) → IsNonbasic qs y → v y ≡ unit_values s x u y = λ y k. ap (λ q. cond q (sum_of s (unit_values s x u) (row_of y rs).entries) (unit_values s x u y)) (same y ∙ k) in
    let left : v b ≡ s.scale (coefficient_of s.numbers x (row_of b rs).entries) u = ap (λ q. cond q (sum_of s (unit_values s x u) (row_of b rs).entries) (unit_values s x u b)) m ∙ sum_unit s l x u 0 (row_of b rs).entries (tidy_row s b rs i.tidy) in
    let right : v b ≡ s.scale (coefficient_of s.numbers x (row_of b qs).entries) u = ap v (sym (row_of_basic b qs)) ∙ (row_holds s v b qs (sym (same b) ∙ m) others).is
    ∙ agreeing_sums s (IsNonbasic qs) v (unit_values s x u) (row_of b qs).entries (over_row (IsNonbasic qs) b qs j.nonbasic) free ∙ sum_unit s l x u 0 (row_of b qs).entries (tidy_row s b qs j.tidy) in
    tells.same _ _ (sym left ∙ right)
