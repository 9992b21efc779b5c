-- What a step of the rule means and keeps.
use Rattle.std.proofs.Common.{◌≡◌, ℕ, suc, Bool, true, false, List, [], ◌∷◌, refl, sym, ◌∙◌, ap, arith, cond, ◌==◌, ◌||◌, ◌&&◌, not, map, subst, Option, Some, None}
use Rattle.std.proofs.lemmas.Bool.{and_parts, or_parts, or_right}
use Rattle.std.proofs.lemmas.Bool.Decides.{nat_tests}
use Rattle.spec_tableaux.specs.Spaces.{Space, IsSpace, IsOrdered}
use Rattle.spec_tableaux.specs.Rows.{Solves, is_basic, coefficient_of, row_of, Entry, sum_of, Row, AreDistinct, exchanged, Pivot, exchanged_row, pivot_row, substituted_row, pivot_of}
use Rattle.spec_tableaux.specs.SolvedForms.{IsSolved, AllVariables, AllRowVariables, IsNonbasic, IsTidy, AreTidy}
use Rattle.spec_tableaux.specs.Ranges.{Range, Meets, is_within, moves_by, below, above, crosses}
use Rattle.spec_tableaux.specs.LeastVariable.{stuck, State, RuleSays, goes_up, crossed, done, IsNonbasicFeasible, Moves, exchange, goal_of, Exchanges}
use Rattle.spec_tableaux.proofs.Sums.{four, plus_origin_right}
use Rattle.spec_tableaux.proofs.Exchanges.{row_holds, row_of_basic, exchange_keeps, or_none}
use Rattle.spec_tableaux.proofs.SolvedForms.{tidy_row, over_from, exchange_solved}
use Rattle.spec_tableaux.proofs.Conflicts.{row_below, within_of, row_above, crossed_none, coefficient_none}

-- where the rule is stuck, no point meets rows and bounds
pub stuck_has_none : {A V : Type 0} (s : Space A V) → IsSpace s → IsOrdered s → (ranges : ℕ → Range V) (t : State A V) (b : ℕ) → IsSolved s.numbers t.rows → Solves s t.point t.rows
    → RuleSays s ranges t (stuck b) → (p : ℕ → V) → Meets s t.rows ranges p → ⊥
stuck_has_none s l o ranges t b i hv says p m =
    let basic = (and_parts (is_basic b t.rows) _ says.1.holds).0 in
    by basic (and_parts (is_basic b t.rows) _ says.1.holds).1 (goes_up s ranges t b) refl says.2
  where
    by : is_basic b t.rows ≡ true → not (is_within s ranges t.point b) ≡ true → (up : Bool) → goes_up s ranges t b ≡ up
        → ((x : ℕ) → moves_by s (ranges x) (t.point x) (goes_up s ranges t b) (coefficient_of s.numbers x (row_of b t.rows).entries) ≡ false) → ⊥
    by basic out true e c = row_below s l o ranges t.point p (row_of b t.rows) (tidy_row s b t.rows i.tidy) (row_holds s t.point b t.rows basic hv) (row_holds s p b t.rows basic m.solves)
        (λ y. within_of s ranges p y (m.within y)) (record { is = λ x. ap (λ up. moves_by s (ranges x) (t.point x) up (coefficient_of s.numbers x (row_of b t.rows).entries)) (sym e) ∙ c x })
        (ap (λ y. below s (t.point y) (ranges y).lower) (row_of_basic b t.rows) ∙ e)
    by basic out false e c = row_above s l o ranges t.point p (row_of b t.rows) (tidy_row s b t.rows i.tidy) (row_holds s t.point b t.rows basic hv) (row_holds s p b t.rows basic m.solves)
        (λ y. within_of s ranges p y (m.within y)) (record { is = λ x. ap (λ up. moves_by s (ranges x) (t.point x) up (coefficient_of s.numbers x (row_of b t.rows).entries)) (sym e) ∙ c x })
        (ap (λ y. above s (t.point y) (ranges y).upper) (row_of_basic b t.rows) ∙ over (below s (t.point b) (ranges b).lower) (above s (t.point b) (ranges b).upper) e out)
      where
        over : (p q : Bool) → p ≡ false → not (not (p || q)) ≡ true → q ≡ true
        over true q h k = absurd (cc)
        over false true h k = refl
        over false false h k = cc

-- where two bounds cross, no point meets the bounds
pub crossed_has_none : {A V : Type 0} (s : Space A V) → IsOrdered s → (ranges : ℕ → Range V) (t : State A V) (y : ℕ) → RuleSays s ranges t (crossed y) → (p : ℕ → V) → Meets s t.rows ranges p → ⊥
crossed_has_none s o ranges t y says p m = let w = within_of s ranges p y (m.within y) in crossed_none s o (ranges y).lower (ranges y).upper (p y) says.holds w.not_below w.not_above

-- where it is done, the point meets both
pub done_meets : {A V : Type 0} (s : Space A V) (ranges : ℕ → Range V) (t : State A V) → IsNonbasicFeasible s ranges t → RuleSays s ranges t done → Meets s t.rows ranges t.point
done_meets s ranges t i says = record { solves = i.solves; within = λ y. by y (is_basic y t.rows) refl (says.1 y) }
  where
    by : (y : ℕ) (q : Bool) → is_basic y t.rows ≡ q → (is_basic y t.rows && not (is_within s ranges t.point y)) ≡ false → is_within s ranges t.point y ≡ true
    by y false e h = i.nonbasic y e
    by y true e h = is_true (is_within s ranges t.point y) (ap (λ q. q && not (is_within s ranges t.point y)) (sym e) ∙ h)
      where
        is_true : (q : Bool) → (true && not q) ≡ false → q ≡ true
        is_true true h = refl
        is_true false h = cc

-- solutions that agree on the nonbasic variables agree
pub agreeing_sums : {A V : Type 0} (s : Space A V) (p : ℕ → Type 0) (u v : ℕ → V) (es : List (Entry A)) → AllVariables p es → ((y : ℕ) → p y → u y ≡ v y) → sum_of s u es ≡ sum_of s v es
agreeing_sums s p u v [] o h = refl
agreeing_sums s p u v (e ∷ es) o h = λ i. s.plus (s.scale e.coefficient (h e.variable o.0 i)) (agreeing_sums s p u v es o.1 h i)

agreeing_rows : {A V : Type 0} (s : Space A V) (p : ℕ → Type 0) (u v : ℕ → V) (rs : List (Row A)) → AllRowVariables p rs → ((y : ℕ) → p y → u y ≡ v y) → Solves s u rs → Solves s v rs
    → (y : ℕ) → is_basic y rs ≡ true → u y ≡ v y
agreeing_rows s p u v [] o h a b y m = cc
agreeing_rows s p u v (r ∷ rs) o h a b y m = by (r.basic == y) refl m (agreeing_rows s p u v rs o.1 h a.1 b.1 y)
  where
    by : (q : Bool) → (r.basic == y) ≡ q → (q || is_basic y rs) ≡ true → (is_basic y rs ≡ true → u y ≡ v y) → u y ≡ v y
    by true e m g = let k : r.basic ≡ y = grind (arith, nat_tests) in subst (λ t. u t ≡ v t) k (a.0.is ∙ agreeing_sums s p u v r.entries o.0 h ∙ sym b.0.is)
    by false e m g = g m

pub one_solution : {A V : Type 0} (s : Space A V) (u v : ℕ → V) (rs : List (Row A)) → IsSolved s.numbers rs → ((y : ℕ) → IsNonbasic rs y → u y ≡ v y) → Solves s u rs → Solves s v rs → (y : ℕ) → u y ≡ v y
one_solution s u v rs i h a b y = by (is_basic y rs) refl
  where
    by : (q : Bool) → is_basic y rs ≡ q → u y ≡ v y
    by true e = agreeing_rows s (IsNonbasic rs) u v rs i.nonbasic h a b y e
    by false e = h y e

-- a sum moves with its entry of x
sum_moves : {A V : Type 0} (s : Space A V) → IsSpace s → (rs : List (Row A)) (x : ℕ) (d : V) (v w : ℕ → V) (at : ℕ) (es : List (Entry A)) → Moves s rs x d v w → AllVariables (IsNonbasic rs) es → IsTidy s.numbers at es
    → sum_of s w es ≡ s.plus (sum_of s v es) (s.scale (coefficient_of s.numbers x es) d)
sum_moves s l rs x d v w at [] m o t = sym (ap (s.plus s.origin) (l.zero_scale d) ∙ l.plus_origin s.origin)
sum_moves s l rs x d v w at (e ∷ es) m o t = by (e.variable == x) refl (sum_moves s l rs x d v w (suc e.variable) es m o.1 t.2)
  where
    by : (q : Bool) → (e.variable == x) ≡ q → sum_of s w es ≡ s.plus (sum_of s v es) (s.scale (coefficient_of s.numbers x es) d)
        → s.plus (s.scale e.coefficient (w e.variable)) (sum_of s w es) ≡ s.plus (s.plus (s.scale e.coefficient (v e.variable)) (sum_of s v es)) (s.scale (cond q e.coefficient (coefficient_of s.numbers x es)) d)
    by true k g =
        let same : e.variable ≡ x = grind (arith, nat_tests) in
        let none : s.scale (coefficient_of s.numbers x es) d ≡ s.origin = ap (λ c. s.scale c d) (coefficient_none s x es (over_from s (suc e.variable) x es (omega arith) t.2)) ∙ l.zero_scale d in
        (λ i. s.plus (s.scale e.coefficient ((subst (λ y. w y ≡ s.plus (v y) d) (sym same) m.entering) i)) ((g ∙ ap (s.plus (sum_of s v es)) none) i))
        ∙ ap (λ z. s.plus z (s.plus (sum_of s v es) s.origin)) (l.scale_plus e.coefficient (v e.variable) d)
        ∙ four s l _ _ _ _ ∙ ap (s.plus _) (plus_origin_right s l _)
    by false k g =
        (λ i. s.plus (s.scale e.coefficient (m.others e.variable o.0 k i)) (g i)) ∙ sym (l.plus_associative _ _ _)

pub same_eqb : (a : ℕ) → (a == a) ≡ true
same_eqb a = grind (arith, nat_tests)

moves_rows : {A V : Type 0} (s : Space A V) → IsSpace s → (all rs : List (Row A)) (x : ℕ) (d : V) (v w : ℕ → V) → Moves s all x d v w → AreDistinct rs → AreTidy s.numbers rs → AllRowVariables (IsNonbasic all) rs
    → ((b : ℕ) → is_basic b rs ≡ true → w b ≡ s.plus (v b) (s.scale (coefficient_of s.numbers x (row_of b rs).entries) d)) → Solves s v rs → Solves s w rs
moves_rows s l all [] x d v w m i t o h a = tt
moves_rows s l all (r ∷ rs) x d v w m i t o h a = (
  record { is = first ∙ ap (λ z. s.plus z (s.scale (coefficient_of s.numbers x r.entries) d)) a.0.is ∙ sym (sum_moves s l all x d v w 0 r.entries m o.0 t.0) },
  moves_rows s l all rs x d v w m i.1 t.1 o.1 (λ b k. rest b k (r.basic == b) refl (h b)) a.1,
)
  where
    first : w r.basic ≡ s.plus (v r.basic) (s.scale (coefficient_of s.numbers x r.entries) d)
    first = h r.basic (ap (λ q. q || is_basic r.basic rs) (same_eqb r.basic)) ∙ ap (λ q. s.plus (v r.basic) (s.scale (coefficient_of s.numbers x (cond q r (row_of r.basic rs)).entries) d)) (same_eqb r.basic)

    rest : (b : ℕ) → is_basic b rs ≡ true → (q : Bool) → (r.basic == b) ≡ q → ((q || is_basic b rs) ≡ true → w b ≡ s.plus (v b) (s.scale (coefficient_of s.numbers x (cond q r (row_of b rs)).entries) d))
        → w b ≡ s.plus (v b) (s.scale (coefficient_of s.numbers x (row_of b rs).entries) d)
    rest b k true e g = absurd (let same : r.basic ≡ b = grind (arith, nat_tests) in let z : is_basic b rs ≡ false = subst (λ y. is_basic y rs ≡ false) same i.0 in cc)
    rest b k false e g = g k

-- a point that moves so solves the rows still
pub moves_solve : {A V : Type 0} (s : Space A V) → IsSpace s → (rs : List (Row A)) (x : ℕ) (d : V) (v w : ℕ → V) → IsSolved s.numbers rs → Moves s rs x d v w → Solves s v rs → Solves s w rs
moves_solve s l rs x d v w i m a = moves_rows s l rs rs x d v w m i.distinct i.tidy i.nonbasic m.basics a

-- how far x has to move so that b comes to its bound, a being x's coefficient_of in b's row
reaches : {A V : Type 0} (s : Space A V) → IsSpace s → (a : A) (g v : V) → s.numbers.is_zero a ≡ false → s.plus v (s.scale a (s.scale (s.numbers.inverse a) (s.plus g (s.scale (s.numbers.opposite s.numbers.one) v)))) ≡ g
reaches s l a g v z =
    let whole : s.scale a (s.scale (s.numbers.inverse a) (s.plus g (s.scale (s.numbers.opposite s.numbers.one) v))) ≡ s.plus g (s.scale (s.numbers.opposite s.numbers.one) v) =
    sym (l.product_scale a (s.numbers.inverse a) _) ∙ ap (λ t. s.scale t (s.plus g (s.scale (s.numbers.opposite s.numbers.one) v))) (l.numbers.product_commutative a (s.numbers.inverse a) ∙ l.numbers.product_inverse a z) ∙ l.one_scale _ in
    let none : s.plus (s.scale (s.numbers.opposite s.numbers.one) v) v ≡ s.origin = ap (s.plus (s.scale (s.numbers.opposite s.numbers.one) v)) (sym (l.one_scale v)) ∙ sym (l.sum_scale (s.numbers.opposite s.numbers.one) s.numbers.one v) ∙ ap (λ t. s.scale t v) (l.numbers.sum_opposite s.numbers.one) ∙ l.zero_scale v in
    ap (s.plus v) whole ∙ l.plus_commutative v _ ∙ l.plus_associative g _ v ∙ ap (s.plus g) none ∙ plus_origin_right s l g

-- the step of the distance
pub exchange_made : {A V : Type 0} (s : Space A V) → IsSpace s → (ranges : ℕ → Range V) (t : State A V) (b x : ℕ) (w : ℕ → V) → IsSolved s.numbers t.rows → Solves s t.point t.rows
    → is_basic b t.rows ≡ true → s.numbers.is_zero (coefficient_of s.numbers x (row_of b t.rows).entries) ≡ false
    → Moves s t.rows x (s.scale (s.numbers.inverse (coefficient_of s.numbers x (row_of b t.rows).entries)) (s.plus (goal_of s (ranges b) (goes_up s ranges t b)) (s.scale (s.numbers.opposite s.numbers.one) (t.point b)))) t.point w
    → Exchanges s ranges t b x (record { rows = exchanged s.numbers b x t.rows; point = w })
exchange_made s l ranges t b x w i a m z mv = record {
  rows = refl;
  solves = (exchange_keeps s l w b x t.rows i.distinct m z).1 (moves_solve s l t.rows x _ t.point w i mv a);
  bound = mv.basics b m ∙ reaches s l _ _ (t.point b) z;
  others = mv.others;
}

-- what is basic before an exchange and does not leave stays basic; so is what enters
pub basic_after : {A V : Type 0} (s : Space A V) (t : Pivot A) (y : ℕ) (rs : List (Row A)) → is_basic y (map (exchanged_row s.numbers t) rs) ≡ false → (y == t.leaving) ≡ false → is_basic y rs ≡ false
basic_after s t y [] h k = refl
basic_after s t y (r ∷ rs) h k = by (r.basic == t.leaving) refl (basic_after s t y rs (or_parts _ _ h).1 k) (or_parts _ _ h).0
  where
    by : (q : Bool) → (r.basic == t.leaving) ≡ q → is_basic y rs ≡ false → ((cond q (pivot_row s.numbers t) (substituted_row s.numbers t r)).basic == y) ≡ false → (r.basic == y || is_basic y rs) ≡ false
    by true e g w = or_none _ _ (let e2 : r.basic ≡ t.leaving = grind (arith, nat_tests) in let z : (r.basic == y) ≡ false = grind (arith, nat_tests) in z) g
    by false e g w = or_none _ _ w g

pub entering_basic : {A V : Type 0} (s : Space A V) (t : Pivot A) (rs : List (Row A)) → is_basic t.leaving rs ≡ true → is_basic t.entering (map (exchanged_row s.numbers t) rs) ≡ true
entering_basic s t [] h = cc
entering_basic s t (r ∷ rs) h = by (r.basic == t.leaving) h (λ h. entering_basic s t rs h)
  where
    by : (q : Bool) → (q || is_basic t.leaving rs) ≡ true → (is_basic t.leaving rs ≡ true → is_basic t.entering (map (exchanged_row s.numbers t) rs) ≡ true)
        → ((cond q (pivot_row s.numbers t) (substituted_row s.numbers t r)).basic == t.entering || is_basic t.entering (map (exchanged_row s.numbers t) rs)) ≡ true
    by true h g = ap (λ q. q || is_basic t.entering (map (exchanged_row s.numbers t) rs)) (same_eqb t.entering)
    by false h g = or_right _ _ (g h)

-- a variable that is not basic after the exchange is b, or was not basic and is not x
pub data NonbasicBefore {A : Type 0} (rs : List (Row A)) (b x y : ℕ) : Type 0 where
  leaving : y ≡ b → NonbasicBefore rs b x y
  stays : IsNonbasic rs y → (y == x) ≡ false → NonbasicBefore rs b x y

pub nonbasic_before : {A V : Type 0} (s : Space A V) (b x y : ℕ) (rs : List (Row A)) → is_basic b rs ≡ true → IsNonbasic (exchanged s.numbers b x rs) y → NonbasicBefore rs b x y
nonbasic_before s b x y rs m f = by (y == b) refl (y == x) refl
  where
    by : (p : Bool) → (y == b) ≡ p → (q : Bool) → (y == x) ≡ q → NonbasicBefore rs b x y
    by true e q g = leaving (let k : y ≡ b = grind (arith, nat_tests) in k)
    by false e true g = absurd (let k : y ≡ x = grind (arith, nat_tests) in let z : is_basic x (exchanged s.numbers b x rs) ≡ true = entering_basic s (pivot_of s.numbers b x (row_of b rs).entries) rs m in let w : is_basic x (exchanged s.numbers b x rs) ≡ false = subst (IsNonbasic (exchanged s.numbers b x rs)) k f in cc)
    by false e false g = stays (basic_after s (pivot_of s.numbers b x (row_of b rs).entries) y rs f e) g

bound_within : {A V : Type 0} (s : Space A V) → IsOrdered s → (range : Range V) (v : V) → crosses s range.lower range.upper ≡ false → (below s v range.lower || above s v range.upper) ≡ true
    → (below s (goal_of s range (below s v range.lower)) range.lower || above s (goal_of s range (below s v range.lower)) range.upper) ≡ false
bound_within {V = W} s o range v c h = by range.lower range.upper c h
  where
    by : (lower upper : Option W) → crosses s lower upper ≡ false → (below s v lower || above s v upper) ≡ true
        → (below s (goal_of s (record { lower = lower; upper = upper }) (below s v lower)) lower || above s (goal_of s (record { lower = lower; upper = upper }) (below s v lower)) upper) ≡ false
    by None None c h = absurd (cc)
    by None (Some t) c h = o.less_irreflexive t
    by (Some l) upper c h = at (s.less v l) upper c h
      where
        at : (q : Bool) (upper : Option W) → above s l upper ≡ false → (q || above s v upper) ≡ true
            → (s.less (goal_of s (record { lower = Some l; upper = upper }) q) l || above s (goal_of s (record { lower = Some l; upper = upper }) q) upper) ≡ false
        at true upper c h = or_none _ _ (o.less_irreflexive l) c
        at false None c h = absurd (cc)
        at false (Some t) c h = or_none _ _ c (o.less_irreflexive t)

-- a step keeps the nonbasic variables within their bounds
pub exchange_updated : {A V : Type 0} (s : Space A V) → IsOrdered s → (ranges : ℕ → Range V) (t u : State A V) (b x : ℕ) → IsNonbasicFeasible s ranges t → RuleSays s ranges t (exchange b x) → Exchanges s ranges t b x u → IsNonbasicFeasible s ranges u
exchange_updated s o ranges t u b x i says e = record {
  solves = e.solves;
  nonbasic = λ y f. by y (nonbasic_before s b x y t.rows basic (subst (λ rs. IsNonbasic rs y) e.rows f));
}
  where
    basic : is_basic b t.rows ≡ true
    basic = (and_parts (is_basic b t.rows) _ says.1.holds).0

    by : (y : ℕ) → NonbasicBefore t.rows b x y → is_within s ranges u.point y ≡ true
    by y (leaving k) = subst (λ y. is_within s ranges u.point y ≡ true) (sym k)
        (ap (λ z. not (below s z (ranges b).lower || above s z (ranges b).upper)) e.bound
        ∙ ap not (bound_within s o (ranges b) (t.point b) (says.0 b) (unnot _ (and_parts (is_basic b t.rows) _ says.1.holds).1)))
      where
        unnot : (q : Bool) → not (not q) ≡ true → q ≡ true
        unnot true h = refl
        unnot false h = cc
    by y (stays f g) = ap (λ z. not (below s z (ranges y).lower || above s z (ranges y).upper)) (e.others y f g) ∙ i.nonbasic y f

-- and there is one such step only
pub one_exchange : {A V : Type 0} (s : Space A V) → IsSpace s → (ranges : ℕ → Range V) (t u w : State A V) (b x : ℕ) → IsSolved s.numbers t.rows → is_basic b t.rows ≡ true → is_basic x t.rows ≡ false
    → s.numbers.is_zero (coefficient_of s.numbers x (row_of b t.rows).entries) ≡ false → Exchanges s ranges t b x u → Exchanges s ranges t b x w → (y : ℕ) → u.point y ≡ w.point y
one_exchange s l ranges t u w b x i m f z e h =
    one_solution s u.point w.point (exchanged s.numbers b x t.rows) (exchange_solved s l b x t.rows i m f z) (λ y k. by y (nonbasic_before s b x y t.rows m k))
    (subst (Solves s u.point) e.rows e.solves) (subst (Solves s w.point) h.rows h.solves)
  where
    by : (y : ℕ) → NonbasicBefore t.rows b x y → u.point y ≡ w.point y
    by y (leaving k) = subst (λ y. u.point y ≡ w.point y) (sym k) (e.bound ∙ sym h.bound)
    by y (stays g k) = e.others y g k ∙ sym (h.others y g k)
