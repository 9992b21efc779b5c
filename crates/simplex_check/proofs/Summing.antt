-- Sums of entries, taken from the first on, and points that grow.
use Rattle.std.proofs.Common.{◌≡◌, ℕ, suc, ◌<◌, Bool, true, false, ◌==◌, ◌||◌, List, [], ◌∷◌, ◌++◌, length, Err, refl, sym, ◌∙◌, ap, subst, append_assoc}
use Rattle.std.proofs.Math.ListN.{get_or-append}
use Rattle.std.proofs.Math.Seq.{get_or-append_seam}
use Rattle.std.proofs.lemmas.List.{append-nil}
use Rattle.spec_numbers.specs.Bounds.{Overflow}
use Rattle.spec_tableaux.specs.Deltas.{delta_added, delta_scaled}
use Rattle.spec_tableaux.specs.Spaces.{Space, IsSpace, Pair}
use Rattle.spec_tableaux.specs.Rows.{Entry, Row, Solves, is_basic, sum_of}
use Rattle.spec_tableaux.specs.SolvedForms.{AllVariables, AllRowVariables}
use Rattle.spec_tableaux.specs.Numbers.{Number}
use Rattle.spec_tableaux.proofs.Growing.{row_added}
use Rattle.spec_tableaux.proofs.Steps.{agreeing_sums, same_eqb}
use Rattle.tableau.specs.Views.{TableauView, IsTableau, with_variable, with_sum}
use Rattle.spec_tableaux.specs.Points.{deltas, point_in, delta_in}
use Rattle.simplex_check.specs.Assignments.{AssignmentView, IsRealAssignment}
use Rattle.spec_tableaux.specs.BoundsOverflows.{OverflowsValue, product, sum_of_product}
use Rattle.simplex_check.proofs.Points.{deltas_are_space, same_point, point_more}

-- an entry more at the end
sum_push : {A V : Type 0} (s : Space A V) → IsSpace s → (v : ℕ → V) (es : List (Entry A)) (e : Entry A) → sum_of s v (es ++ e ∷ []) ≡ s.plus (sum_of s v es) (s.scale e.coefficient (v e.variable))
sum_push s l v [] e = l.plus_commutative _ _
sum_push s l v (f ∷ es) e = ap (s.plus (s.scale f.coefficient (v f.variable))) (sum_push s l v es e) ∙ sym (l.plus_associative _ _ _)

-- The sum of the entries before the rest.
pub record Summed (v : ℕ → Pair Number) (whole rest : List (Entry Number)) (sum : Pair Number) : Type 0 where
  pub before : List (Entry Number)
  pub whole_is : whole ≡ before ++ rest
  pub sum_is : sum ≡ sum_of deltas v before

pub summed_none : (v : ℕ → Pair Number) (whole : List (Entry Number)) (sum : Pair Number) → sum ≡ deltas.origin → Summed v whole whole sum
summed_none v whole sum e = record { before = []; whole_is = refl; sum_is = e }

pub summed_more : (v : ℕ → Pair Number) (whole rest more : List (Entry Number)) (e : Entry Number) (sum q new : Pair Number) → Summed v whole rest sum → rest ≡ e ∷ more
    → q ≡ deltas.scale e.coefficient (v e.variable) → new ≡ deltas.plus sum q → Summed v whole more new
summed_more v whole rest more e sum q new s r p n = record {
  before = s.before ++ e ∷ [];
  whole_is = s.whole_is ∙ ap (λ z. s.before ++ z) r ∙ sym (append_assoc s.before (e ∷ []) more);
  sum_is = n ∙ (λ i. deltas.plus (s.sum_is i) (p i)) ∙ sym (sum_push deltas deltas_are_space v s.before e);
}

pub summed_all : (v : ℕ → Pair Number) (whole rest : List (Entry Number)) (sum : Pair Number) → Summed v whole rest sum → rest ≡ [] → sum ≡ sum_of deltas v whole
summed_all v whole rest sum s r = s.sum_is ∙ ap (sum_of deltas v) (sym (s.whole_is ∙ ap (λ z. s.before ++ z) r ∙ append-nil s.before))

pub overflows_product : (v : ℕ → Pair Number) (whole rest more : List (Entry Number)) (e : Entry Number) (sum value : Pair Number) (o : Overflow) → Summed v whole rest sum → rest ≡ e ∷ more
    → value ≡ v e.variable → delta_scaled e.coefficient.fraction (delta_in value) ≡ Err o → OverflowsValue v whole o
overflows_product v whole rest more e sum value o s r g h = product s.before e more (s.whole_is ∙ ap (λ z. s.before ++ z) r) (ap (λ p. delta_scaled e.coefficient.fraction (delta_in p)) (sym g) ∙ h)

pub overflows_sum : (v : ℕ → Pair Number) (whole rest more : List (Entry Number)) (e : Entry Number) (sum q : Pair Number) (o : Overflow) → Summed v whole rest sum → rest ≡ e ∷ more
    → q ≡ deltas.scale e.coefficient (v e.variable) → delta_added (delta_in sum) (delta_in q) ≡ Err o → OverflowsValue v whole o
overflows_sum v whole rest more e sum q o s r g h =
    sum_of_product s.before e more (s.whole_is ∙ ap (λ z. s.before ++ z) r) ((λ i. delta_added (delta_in (sym s.sum_is i)) (delta_in (sym g i))) ∙ h)

-- the first of the rest is known, and so are the others
pub over_first : (n : ℕ) (e : Entry Number) (rest more : List (Entry Number)) → rest ≡ e ∷ more → AllVariables (λ y. y < n) rest → (e.variable < n) × AllVariables (λ y. y < n) more
over_first n e rest more r h = subst (AllVariables (λ y. y < n)) r h

-- an assignment with one variable more
pub variable_added : (t u : TableauView) (vs ws : List (Pair Number)) → u ≡ with_variable t → ws ≡ vs ++ deltas.origin ∷ [] → length vs ≡ t.variables → Solves deltas (point_in vs) t.rows
    → IsRealAssignment (record { tableau = u; values = ws })
variable_added t u vs ws e g l s = subst (λ (b : AssignmentView). IsRealAssignment b) (sym (λ i. record { tableau = e i; values = g i })) (record {
  lengths = length_push vs ∙ ap suc l;
  solves = subst (λ f. Solves deltas f t.rows) (same_point (point_in vs) (point_in (vs ++ deltas.origin ∷ [])) (λ y. sym (point_more vs y))) s;
})
  where
    length_push : (xs : List (Pair Number)) → length (xs ++ deltas.origin ∷ []) ≡ suc (length xs)
    length_push [] = refl
    length_push (x ∷ xs) = ap suc (length_push xs)

-- values that agree on the variables of rows solve them alike
agreeing_solve : (n : ℕ) (u v : ℕ → Pair Number) (rs : List (Row Number)) → ((y : ℕ) → y < n → u y ≡ v y) → ((b : ℕ) → is_basic b rs ≡ true → b < n) → AllRowVariables (λ y. y < n) rs
    → Solves deltas u rs → Solves deltas v rs
agreeing_solve n u v [] h b o s = tt
agreeing_solve n u v (r ∷ rs) h b o s = (
  record { is = sym (h r.basic (b r.basic (ap (λ q. q || is_basic r.basic rs) (same_eqb r.basic)))) ∙ s.0.is ∙ agreeing_sums deltas (λ y. y < n) u v r.entries o.0 h },
  agreeing_solve n u v rs h (λ c m. b c (ap (λ q. r.basic == c || q) m ∙ or_true (r.basic == c))) o.1 s.1,
)
  where
    or_true : (q : Bool) → (q || true) ≡ true
    or_true true = refl
    or_true false = refl

-- an assignment with a new variable that is a sum
pub sum_added : (t u : TableauView) (vs ws : List (Pair Number)) (es : List (Entry Number)) (x : Pair Number) → IsTableau t → u ≡ with_sum t es → ws ≡ vs ++ x ∷ [] → x ≡ sum_of deltas (point_in vs) es
    → AllVariables (λ y. y < t.variables) es → length vs ≡ t.variables → Solves deltas (point_in vs) t.rows → IsRealAssignment (record { tableau = u; values = ws })
sum_added t u vs ws es x is e g k o l s = subst (λ (b : AssignmentView). IsRealAssignment b) (sym (λ i. record { tableau = e i; values = g i })) (record {
  lengths = length_push vs ∙ ap suc l;
  solves = (row_added deltas deltas_are_space (point_in (vs ++ x ∷ [])) t.rows t.variables es).1 (
    agreeing_solve t.variables (point_in vs) (point_in (vs ++ x ∷ [])) t.rows below is.basics_below is.entries_below s,
    last ∙ k ∙ agreeing_sums deltas (λ y. y < t.variables) (point_in vs) (point_in (vs ++ x ∷ [])) es o below,
  );
})
  where
    length_push : (xs : List (Pair Number)) → length (xs ++ x ∷ []) ≡ suc (length xs)
    length_push [] = refl
    length_push (y ∷ xs) = ap suc (length_push xs)

    below : (y : ℕ) → y < t.variables → point_in vs y ≡ point_in (vs ++ x ∷ []) y
    below y h = sym (get_or-append vs (x ∷ []) deltas.origin y (subst (λ n. y < n) (sym l) h))

    last : point_in (vs ++ x ∷ []) t.variables ≡ x
    last = ap (point_in (vs ++ x ∷ [])) (sym l) ∙ get_or-append_seam vs x [] deltas.origin
