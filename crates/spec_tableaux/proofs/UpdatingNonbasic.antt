-- The points of the steps: nonbasic variables within their bounds, and a variable moved.
use Rattle.std.proofs.Common.{◌≡◌, ℕ, Bool, true, false, List, refl, ◌∙◌, ap, cond, ◌==◌, ◌||◌, not, subst, Option, Some, None}
use Rattle.spec_tableaux.specs.Spaces.{Space, IsOrdered}
use Rattle.spec_tableaux.specs.Rows.{Row, sum_of, coefficient_of, row_of}
use Rattle.spec_tableaux.specs.SolvedForms.{IsNonbasic, IsSolved, extended}
use Rattle.spec_tableaux.specs.Ranges.{Range, below, above, crosses, is_crossed, bound_or, value_in_range}
use Rattle.spec_tableaux.specs.LeastVariable.{State, UpdatesNonbasic, IsNonbasicFeasible, Moves, moved}
use Rattle.spec_tableaux.proofs.Exchanges.{or_none}
use Rattle.spec_tableaux.proofs.Steps.{same_eqb}
use Rattle.spec_tableaux.proofs.Unique.{extended_solves}

updated_within : {A V : Type 0} (s : Space A V) → IsOrdered s → (range : Range V) (x : V) → crosses s range.lower range.upper ≡ false
    → (below s (value_in_range s range x) range.lower || above s (value_in_range s range x) range.upper) ≡ false
updated_within {V = W} s o range x c = by range.lower range.upper c
  where
    by : (lower upper : Option W) → crosses s lower upper ≡ false
        → (below s (value_in_range s (record { lower = lower; upper = upper }) x) lower || above s (value_in_range s (record { lower = lower; upper = upper }) x) upper) ≡ false
    by None None c = refl
    by None (Some u) c = at (s.less u x) refl
      where
        at : (q : Bool) → s.less u x ≡ q → s.less u (cond q u x) ≡ false
        at true e = o.less_irreflexive u
        at false e = e
    by (Some l) upper c = at (s.less x l) refl upper c
      where
        at : (q : Bool) → s.less x l ≡ q → (upper : Option W) → above s l upper ≡ false
            → (s.less (cond q l (cond (above s x upper) (bound_or x upper) x)) l || above s (cond q l (cond (above s x upper) (bound_or x upper) x)) upper) ≡ false
        at true e upper c = or_none _ _ (o.less_irreflexive l) c
        at false e None c = or_none _ _ e refl
        at false e (Some u) c = again (s.less u x) refl
          where
            again : (p : Bool) → s.less u x ≡ p → (s.less (cond p u x) l || s.less u (cond p u x)) ≡ false
            again true k = or_none _ _ c (o.less_irreflexive u)
            again false k = or_none _ _ e k

-- where no bounds cross, the step before all exchanges leaves nonbasic variables within their bounds
pub updates_updated : {A V : Type 0} (s : Space A V) → IsOrdered s → (ranges : ℕ → Range V) (t u : State A V) → ((y : ℕ) → is_crossed s ranges y ≡ false) → UpdatesNonbasic s ranges t u → IsNonbasicFeasible s ranges u
updates_updated s o ranges t u c h = record {
  solves = h.solves;
  nonbasic = λ y f. ap (λ z. not (below s z (ranges y).lower || above s z (ranges y).upper)) (h.nonbasic y (subst (λ rs. IsNonbasic rs y) h.rows f))
      ∙ ap not (updated_within s o (ranges y) (t.point y) (c y));
}

-- and there is such a step
pub updates_made : {A V : Type 0} (s : Space A V) (ranges : ℕ → Range V) (t : State A V) → IsSolved s.numbers t.rows
    → UpdatesNonbasic s ranges t (record { rows = t.rows; point = extended s t.rows (λ y. value_in_range s (ranges y) (t.point y)) })
updates_made s ranges t i = record {
  rows = refl;
  solves = extended_solves s t.rows (λ y. value_in_range s (ranges y) (t.point y)) i;
  nonbasic = λ y f. ap (λ q. cond q (sum_of s (λ z. value_in_range s (ranges z) (t.point z)) (row_of y t.rows).entries) (value_in_range s (ranges y) (t.point y))) f;
}

-- the values that follow a nonbasic variable
pub moved_moves : {A V : Type 0} (s : Space A V) (rs : List (Row A)) (x : ℕ) (d : V) (v : ℕ → V) → IsNonbasic rs x → Moves s rs x d v (moved s rs x d v)
moved_moves s rs x d v f = record {
  basics = λ b m. ap (λ q. cond q (s.plus (v b) (s.scale (coefficient_of s.numbers x (row_of b rs).entries) d)) (cond (b == x) (s.plus (v b) d) (v b))) m;
  entering = ap (λ q. cond q (s.plus (v x) (s.scale (coefficient_of s.numbers x (row_of x rs).entries) d)) (cond (x == x) (s.plus (v x) d) (v x))) f
      ∙ ap (λ q. cond q (s.plus (v x) d) (v x)) (same_eqb x);
  others = λ y g h. ap (λ q. cond q (s.plus (v y) (s.scale (coefficient_of s.numbers x (row_of y rs).entries) d)) (cond (y == x) (s.plus (v y) d) (v y))) g
      ∙ ap (λ q. cond q (s.plus (v y) d) (v y)) h;
}
