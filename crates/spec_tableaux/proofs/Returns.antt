-- A variable that left does not enter again while lesser ones alone move: why the least-variable rule ends.
use Rattle.std.proofs.Common.{◌≡◌, ℕ, suc, ◌<◌, ◌≤◌, Bool, true, false, List, [], ◌∷◌, refl, sym, ◌∙◌, ap, arith, cond, ◌==◌, ◌||◌, ◌&&◌, not, subst, Option, Some, None, ◌⊎◌, inl, inr}
use Rattle.std.proofs.lemmas.Bool.{and_parts, cases_lt}
use Rattle.std.proofs.lemmas.Bool.Decides.{nat_tests}
use Rattle.spec_tableaux.specs.Fields.{is_positive}
use Rattle.spec_tableaux.specs.Spaces.{Space, IsSpace, IsOrdered}
use Rattle.spec_tableaux.specs.Rows.{Entry, coefficient_of, row_of, is_basic, Solves, Row, Holds}
use Rattle.spec_tableaux.specs.SolvedForms.{AllVariables, IsSolved, IsPivot, IsNonbasic, IsTidy}
use Rattle.spec_tableaux.specs.Ranges.{Range, moves_by, can_rise, can_fall, below, above, is_within}
use Rattle.spec_tableaux.specs.LeastVariable.{State, RuleSays, exchange, goes_up, IsNonbasicFeasible, Exchanges, MakesPivots, AreUnder, goal_of, IsLeast, is_out}
use Rattle.spec_tableaux.proofs.Exchanges.{exchange_keeps, row_holds, row_of_basic}
use Rattle.spec_tableaux.proofs.SolvedForms.{over_row, exchange_solved, tidy_row}
use Rattle.spec_tableaux.proofs.Conflicts.{AtMost, Below, none, more, most_scale, Within, within_of, term_up, most_same, term_down, sum_most, below_less, above_less}
use Rattle.spec_tableaux.proofs.Steps.{exchange_updated, nonbasic_before, NonbasicBefore, leaving, stays}

-- what moves has an entry
nonzero_of : {A V : Type 0} (s : Space A V) (range : Range V) (x : V) (up : Bool) (c : A) → moves_by s range x up c ≡ true → s.numbers.is_zero c ≡ false
nonzero_of s range x up c h = by (s.numbers.is_zero c) h
  where
    by : (q : Bool) → cond q false (cond (is_positive s.numbers c) (cond up (can_rise s x range.upper) (can_fall s x range.lower)) (cond up (can_fall s x range.lower) (can_rise s x range.upper))) ≡ true → q ≡ false
    by true h = absurd (cc)
    by false h = refl

pub over_entry : {A V : Type 0} (s : Space A V) → IsSpace s → (p : ℕ → Type 0) (x : ℕ) (es : List (Entry A)) → AllVariables p es → s.numbers.is_zero (coefficient_of s.numbers x es) ≡ false → p x
over_entry s l p x [] o z = absurd (let k = l.numbers.zero_is_zero in cc)
over_entry s l p x (e ∷ es) o z = by (e.variable == x) refl (over_entry s l p x es o.1) z
  where
    by : (q : Bool) → (e.variable == x) ≡ q → (s.numbers.is_zero (coefficient_of s.numbers x es) ≡ false → p x) → s.numbers.is_zero (cond q e.coefficient (coefficient_of s.numbers x es)) ≡ false → p x
    by true j g z = subst p (let k : e.variable ≡ x = grind (arith, nat_tests) in k) o.0
    by false j g z = g z

-- what an exchange that the rule says needs
pub says_pivot : {A V : Type 0} (s : Space A V) → IsSpace s → (ranges : ℕ → Range V) (t : State A V) (b x : ℕ) → IsSolved s.numbers t.rows → RuleSays s ranges t (exchange b x) → IsPivot s.numbers t.rows b x
says_pivot s l ranges t b x i h =
    let there = nonzero_of s (ranges x) (t.point x) (goes_up s ranges t b) (coefficient_of s.numbers x (row_of b t.rows).entries) h.2.holds in
    record {
      basic = (and_parts (is_basic b t.rows) _ h.1.holds).0;
      nonbasic = over_entry s l (IsNonbasic t.rows) x (row_of b t.rows).entries (over_row (IsNonbasic t.rows) b t.rows i.nonbasic) there;
      entry = there;
    }

-- neither leaves nor enters
abbrev pub IsAway : ℕ → List (ℕ × ℕ) → Type 0
IsAway y [] = Unit {0}
IsAway y (e ∷ es) = ((y == e.0) ≡ false) × ((y == e.1) ≡ false) × IsAway y es

-- the end of exchanges, seen from their beginning
pub record Reached {A V : Type 0} (s : Space A V) (ranges : ℕ → Range V) (t u : State A V) : Type 0 where
  pub solved : IsSolved s.numbers u.rows
  pub nonbasic_updated : IsNonbasicFeasible s ranges u
  pub same : (v : ℕ → V) → Solves s v t.rows → Solves s v u.rows

reached_same : {A V : Type 0} (s : Space A V) (ranges : ℕ → Range V) (t u : State A V) → IsSolved s.numbers t.rows → IsNonbasicFeasible s ranges t → t ≡ u → Reached s ranges t u
reached_same s ranges t u i k e = subst (Reached s ranges t) e (record { solved = i; nonbasic_updated = k; same = λ v h. h })

pub one_step : {A V : Type 0} (s : Space A V) → IsSpace s → IsOrdered s → (ranges : ℕ → Range V) (t m : State A V) (b x : ℕ) → IsSolved s.numbers t.rows → IsNonbasicFeasible s ranges t → RuleSays s ranges t (exchange b x) → Exchanges s ranges t b x m → Reached s ranges t m
one_step s l o ranges t m b x i k says e =
    let f = says_pivot s l ranges t b x i says in
    record {
      solved = subst (IsSolved s.numbers) (sym e.rows) (exchange_solved s l b x t.rows i f.basic f.nonbasic f.entry);
      nonbasic_updated = exchange_updated s o ranges t m b x k says e;
      same = λ v h. subst (Solves s v) (sym e.rows) ((exchange_keeps s l v b x t.rows i.distinct f.basic f.entry).1 h);
    }

pub reached : {A V : Type 0} (s : Space A V) → IsSpace s → IsOrdered s → (ranges : ℕ → Range V) (t u : State A V) (es : List (ℕ × ℕ)) → IsSolved s.numbers t.rows → IsNonbasicFeasible s ranges t → MakesPivots s ranges t es u → Reached s ranges t u
reached s l o ranges t u [] i k m = reached_same s ranges t u i k m
reached s l o ranges t u (e ∷ es) i k m =
    let a = one_step s l o ranges t m.1.0 e.0 e.1 i k m.0 m.1.1 in
    let b = reached s l o ranges m.1.0 u es a.solved a.nonbasic_updated m.1.2 in
    record { solved = b.solved; nonbasic_updated = b.nonbasic_updated; same = λ v h. b.same v (a.same v h) }

-- what is not basic at the end and neither left nor entered had its value before
pub kept_value : {A V : Type 0} (s : Space A V) → IsSpace s → IsOrdered s → (ranges : ℕ → Range V) (t u : State A V) (es : List (ℕ × ℕ)) (y : ℕ) → IsSolved s.numbers t.rows → IsNonbasicFeasible s ranges t → MakesPivots s ranges t es u → IsAway y es → IsNonbasic u.rows y
    → IsNonbasic t.rows y × (u.point y ≡ t.point y)
kept_value s l o ranges t u [] y i k m a f = (subst (λ z. IsNonbasic z.rows y) (sym m) f, ap (λ (z : State _ _). z.point y) (sym m))
kept_value s l o ranges t u (e ∷ es) y i k m a f =
    let one = one_step s l o ranges t m.1.0 e.0 e.1 i k m.0 m.1.1 in
    let fit = says_pivot s l ranges t e.0 e.1 i m.0 in
    let rest = kept_value s l o ranges m.1.0 u es y one.solved one.nonbasic_updated m.1.2 a.2 f in
    by (nonbasic_before s e.0 e.1 y t.rows fit.basic (subst (λ rs. IsNonbasic rs y) m.1.1.rows rest.0)) rest.1
  where
    by : NonbasicBefore t.rows e.0 e.1 y → u.point y ≡ m.1.0.point y → IsNonbasic t.rows y × (u.point y ≡ t.point y)
    by (leaving j) r = absurd (let k2 : (y == e.0) ≡ true = grind (arith, nat_tests) in let w = a.0 in cc)
    by (stays g j) r = (g, r ∙ m.1.1.others y g j)

away_of : (r y : ℕ) (es : List (ℕ × ℕ)) → r ≤ y → AreUnder r es → IsAway y es
away_of r y [] h u = tt
away_of r y (e ∷ es) h u = (
  let k : e.0 < y = omega (arith, u.0) in let w : (y == e.0) ≡ false = grind (arith, nat_tests) in w,
  let k : e.1 < y = omega (arith, u.1) in let w : (y == e.1) ≡ false = grind (arith, nat_tests) in w,
  away_of r y es h u.2,
)

-- terms that are at most others make a sum that is
terms_below : {A V : Type 0} (s : Space A V) → IsSpace s → (p v : ℕ → V) (at : ℕ) (es : List (Entry A)) → IsTidy s.numbers at es
    → ((y : ℕ) → s.numbers.is_zero (coefficient_of s.numbers y es) ≡ false → AtMost s (s.scale (coefficient_of s.numbers y es) (p y)) (s.scale (coefficient_of s.numbers y es) (v y))) → Below s p v es
terms_below s l p v at [] t h = none
terms_below s l p v at (e ∷ es) t h = more e es
    (subst (λ c. AtMost s (s.scale c (p e.variable)) (s.scale c (v e.variable))) first (h e.variable (ap s.numbers.is_zero first ∙ t.1)))
    (terms_below s l p v (suc e.variable) es t.2 (λ y z. by y z (e.variable == y) refl))
  where
    first : coefficient_of s.numbers e.variable (e ∷ es) ≡ e.coefficient
    first = ap (λ q. cond q e.coefficient (coefficient_of s.numbers e.variable es)) (let w : (e.variable == e.variable) ≡ true = grind (arith, nat_tests) in w)

    by : (y : ℕ) → s.numbers.is_zero (coefficient_of s.numbers y es) ≡ false → (q : Bool) → (e.variable == y) ≡ q → AtMost s (s.scale (coefficient_of s.numbers y es) (p y)) (s.scale (coefficient_of s.numbers y es) (v y))
    by y z true j = absurd (let k : e.variable ≡ y = grind (arith, nat_tests) in let far : suc e.variable ≤ y × ((y == e.variable) ≡ false) = over_entry s l (λ x. suc e.variable ≤ x × ((x == e.variable) ≡ false)) y es (from (suc e.variable) es (omega arith) t.2) z in omega (arith, far.0))
      where
        from : (to : ℕ) (fs : List (Entry _)) → suc e.variable ≤ to → IsTidy s.numbers to fs → AllVariables (λ x. suc e.variable ≤ x × ((x == e.variable) ≡ false)) fs
        from to [] g u = tt
        from to (f ∷ fs) g u = ((omega (arith, u.0), let k : e.variable < f.variable = omega (arith, u.0) in let w : (f.variable == e.variable) ≡ false = grind (arith, nat_tests) in w), from (suc f.variable) fs (omega (arith, u.0)) u.2)
    by y z false j = let same : coefficient_of s.numbers y (e ∷ es) ≡ coefficient_of s.numbers y es = ap (λ q. cond q e.coefficient (coefficient_of s.numbers y es)) j in
        subst (λ c. AtMost s (s.scale c (p y)) (s.scale c (v y))) same (h y (ap s.numbers.is_zero same ∙ z))

less_is_most : {A V : Type 0} (s : Space A V) → IsOrdered s → (x y : V) → s.less x y ≡ true → AtMost s x y
less_is_most s o x y h = record { is = by (s.less y x) refl }
  where
    by : (q : Bool) → s.less y x ≡ q → q ≡ false
    by true e = absurd (let k = o.less_transitive x y x h e in let w = o.less_irreflexive x in cc)
    by false e = refl

-- where r went to the bound that it violated and may rise there, it was lower before; where it may fall, greater
record Came {A V : Type 0} (s : Space A V) (range : Range V) (p v : V) : Type 0 where
  rises : can_rise s v range.upper ≡ true → AtMost s p v
  falls : can_fall s v range.lower ≡ true → AtMost s v p

came : {A V : Type 0} (s : Space A V) → IsOrdered s → (range : Range V) (p v : V) → (below s p range.lower || above s p range.upper) ≡ true → v ≡ goal_of s range (below s p range.lower) → Came s range p v
came {V = W} s o range p v out e = by range.lower range.upper out e
  where
    by : (lower upper : Option W) → (below s p lower || above s p upper) ≡ true → v ≡ goal_of s (record { lower = lower; upper = upper }) (below s p lower) → Came s (record { lower = lower; upper = upper }) p v
    by None None out e = absurd (cc)
    by None (Some h) out e = record { rises = λ k. absurd (let w : s.less h h ≡ true = subst (λ z. s.less z h ≡ true) e k in let n = o.less_irreflexive h in cc); falls = λ k. subst (λ z. AtMost s z p) (sym e) (less_is_most s o h p out) }
    by (Some l) upper out e = at (s.less p l) refl upper out e
      where
        at : (q : Bool) → s.less p l ≡ q → (upper : Option W) → (q || above s p upper) ≡ true → v ≡ goal_of s (record { lower = Some l; upper = upper }) q → Came s (record { lower = Some l; upper = upper }) p v
        at true j upper out e = record { rises = λ k. subst (λ z. AtMost s p z) (sym e) (less_is_most s o p l j); falls = λ k. absurd (let w : s.less l l ≡ true = subst (λ z. s.less l z ≡ true) e k in let n = o.less_irreflexive l in cc) }
        at false j None out e = absurd (cc)
        at false j (Some h) out e = record { rises = λ k. absurd (let w : s.less h h ≡ true = subst (λ z. s.less z h ≡ true) e k in let n = o.less_irreflexive h in cc); falls = λ k. subst (λ z. AtMost s z p) (sym e) (less_is_most s o h p out) }

moved_parts : {A V : Type 0} (s : Space A V) (range : Range V) (x : V) (up : Bool) (c : A) → s.numbers.is_zero c ≡ false → moves_by s range x up c ≡ true → (q : Bool) → is_positive s.numbers c ≡ q
    → cond q (cond up (can_rise s x range.upper) (can_fall s x range.lower)) (cond up (can_fall s x range.lower) (can_rise s x range.upper)) ≡ true
moved_parts s range x up c z m q e = sym (λ i. cond (z i) false (cond (e i) (cond up (can_rise s x range.upper) (can_fall s x range.lower)) (cond up (can_fall s x range.lower) (can_rise s x range.upper)))) ∙ m

came_up : {A V : Type 0} (s : Space A V) → IsOrdered s → (range : Range V) (p v : V) (c : A) → s.numbers.is_zero c ≡ false → moves_by s range v true c ≡ true → Came s range p v → AtMost s (s.scale c p) (s.scale c v)
came_up s o range p v c z m w = most_scale s o c p v z (λ e. w.rises (moved_parts s range v true c z m true e)) (λ e. w.falls (moved_parts s range v true c z m false e))

came_down : {A V : Type 0} (s : Space A V) → IsOrdered s → (range : Range V) (p v : V) (c : A) → s.numbers.is_zero c ≡ false → moves_by s range v false c ≡ true → Came s range p v → AtMost s (s.scale c v) (s.scale c p)
came_down s o range p v c z m w = most_scale s o c v p z (λ e. w.falls (moved_parts s range v false c z m true e)) (λ e. w.rises (moved_parts s range v false c z m false e))

not_not : (q : Bool) → not (not q) ≡ true → q ≡ true
not_not true h = refl
not_not false h = cc

is_false : (p q : Bool) → p ≡ true → (p && not q) ≡ false → q ≡ true
is_false true true e h = refl
is_false true false e h = cc
is_false false q e h = absurd (cc)

-- what holds at the state in which r leaves, for lesser variables
under_within : {A V : Type 0} (s : Space A V) (ranges : ℕ → Range V) (t : State A V) (r y : ℕ) → IsNonbasicFeasible s ranges t → IsLeast (is_out s ranges t) r → y < r → is_within s ranges t.point y ≡ true
under_within s ranges t r y k least h = by (is_basic y t.rows) refl
  where
    by : (q : Bool) → is_basic y t.rows ≡ q → is_within s ranges t.point y ≡ true
    by true e = is_false (is_basic y t.rows) _ e (least.least y h)
    by false e = k.nonbasic y e

-- r leaves at t, lesser variables alone leave and enter up to u, and there r would enter: impossible
pub no_return : {A V : Type 0} (s : Space A V) → IsSpace s → IsOrdered s → (ranges : ℕ → Range V) (t m u : State A V) (r x k : ℕ) (es : List (ℕ × ℕ)) → IsSolved s.numbers t.rows → IsNonbasicFeasible s ranges t
    → RuleSays s ranges t (exchange r x) → Exchanges s ranges t r x m → MakesPivots s ranges m es u → x < r → AreUnder r es → RuleSays s ranges u (exchange k r) → k < r → ⊥
no_return {A = B} {V = W} s l o ranges t m u r x k es i set says step makes xr under then kr = at (goes_up s ranges u k) refl
  where
    one : Reached s ranges t m
    one = one_step s l o ranges t m r x i set says step

    far : Reached s ranges m u
    far = reached s l o ranges m u es one.solved one.nonbasic_updated makes

    there : IsPivot s.numbers u.rows k r
    there = says_pivot s l ranges u k r far.solved then

    L : Row B
    L = row_of k u.rows

    hv : Holds s u.point L
    hv = row_holds s u.point k u.rows there.basic far.nonbasic_updated.solves

    hp : Holds s t.point L
    hp = row_holds s t.point k u.rows there.basic (far.same t.point (one.same t.point set.solves))

    tidy : IsTidy s.numbers 0 L.entries
    tidy = tidy_row s k u.rows far.solved.tidy

    within : (y : ℕ) → y < r → Within s (ranges y) (t.point y)
    within y h = within_of s ranges t.point y (under_within s ranges t r y set says.1 h)

    free : (y : ℕ) → s.numbers.is_zero (coefficient_of s.numbers y L.entries) ≡ false → IsNonbasic u.rows y
    free y z = over_entry s l (IsNonbasic u.rows) y L.entries (over_row (IsNonbasic u.rows) k u.rows far.solved.nonbasic) z

    r_kept : u.point r ≡ m.point r
    r_kept = (kept_value s l o ranges m u es r one.solved one.nonbasic_updated makes (away_of r r es (omega arith) under) there.nonbasic).1

    r_came : Came s (ranges r) (t.point r) (u.point r)
    r_came = came s o (ranges r) (t.point r) (u.point r) (not_not _ (and_parts (is_basic r t.rows) _ says.1.holds).1) (r_kept ∙ step.bound)

    greater : (y : ℕ) → r < y → IsNonbasic u.rows y → t.point y ≡ u.point y
    greater y h f = sym (kept_value s l o ranges t u ((r, x) ∷ es) y i set (says, (m, step, makes)) (let w : (y == r) ≡ false = grind (arith, nat_tests) in w, let v : x < y = omega arith in let w : (y == x) ≡ false = grind (arith, nat_tests) in w, away_of r y es (omega arith) under) f).1

    lesser : (y : ℕ) → y < r → moves_by s (ranges y) (u.point y) (goes_up s ranges u k) (coefficient_of s.numbers y L.entries) ≡ false
    lesser y h = then.2.least y h

    enters : moves_by s (ranges r) (u.point r) (goes_up s ranges u k) (coefficient_of s.numbers r L.entries) ≡ true
    enters = then.2.holds

    term_rises : goes_up s ranges u k ≡ true → (y : ℕ) → s.numbers.is_zero (coefficient_of s.numbers y L.entries) ≡ false → (y < r) ⊎ (r ≤ y) → (q : Bool) → (y == r) ≡ q
        → AtMost s (s.scale (coefficient_of s.numbers y L.entries) (t.point y)) (s.scale (coefficient_of s.numbers y L.entries) (u.point y))
    term_rises e y z (inl h) q j = term_up s o (ranges y) (coefficient_of s.numbers y L.entries) (u.point y) (t.point y) z (ap (λ up. moves_by s (ranges y) (u.point y) up (coefficient_of s.numbers y L.entries)) (sym e) ∙ lesser y h) (within y h)
    term_rises e y z (inr h) true j = let w : r ≡ y = grind (arith, nat_tests) in
        subst (λ y. AtMost s (s.scale (coefficient_of s.numbers y L.entries) (t.point y)) (s.scale (coefficient_of s.numbers y L.entries) (u.point y))) w
        (came_up s o (ranges r) (t.point r) (u.point r) (coefficient_of s.numbers r L.entries) there.entry (ap (λ up. moves_by s (ranges r) (u.point r) up (coefficient_of s.numbers r L.entries)) (sym e) ∙ enters) r_came)
    term_rises e y z (inr h) false j = let g : r < y = grind (arith, nat_tests) in subst (λ b. AtMost s (s.scale (coefficient_of s.numbers y L.entries) b) (s.scale (coefficient_of s.numbers y L.entries) (u.point y))) (sym (greater y g (free y z))) (most_same s o _)

    term_falls : goes_up s ranges u k ≡ false → (y : ℕ) → s.numbers.is_zero (coefficient_of s.numbers y L.entries) ≡ false → (y < r) ⊎ (r ≤ y) → (q : Bool) → (y == r) ≡ q
        → AtMost s (s.scale (coefficient_of s.numbers y L.entries) (u.point y)) (s.scale (coefficient_of s.numbers y L.entries) (t.point y))
    term_falls e y z (inl h) q j = term_down s o (ranges y) (coefficient_of s.numbers y L.entries) (u.point y) (t.point y) z (ap (λ up. moves_by s (ranges y) (u.point y) up (coefficient_of s.numbers y L.entries)) (sym e) ∙ lesser y h) (within y h)
    term_falls e y z (inr h) true j = let w : r ≡ y = grind (arith, nat_tests) in
        subst (λ y. AtMost s (s.scale (coefficient_of s.numbers y L.entries) (u.point y)) (s.scale (coefficient_of s.numbers y L.entries) (t.point y))) w
        (came_down s o (ranges r) (t.point r) (u.point r) (coefficient_of s.numbers r L.entries) there.entry (ap (λ up. moves_by s (ranges r) (u.point r) up (coefficient_of s.numbers r L.entries)) (sym e) ∙ enters) r_came)
    term_falls e y z (inr h) false j = let g : r < y = grind (arith, nat_tests) in subst (λ b. AtMost s (s.scale (coefficient_of s.numbers y L.entries) (u.point y)) (s.scale (coefficient_of s.numbers y L.entries) b)) (sym (greater y g (free y z))) (most_same s o _)

    out_above : goes_up s ranges u k ≡ false → above s (u.point k) (ranges k).upper ≡ true
    out_above e = second (below s (u.point k) (ranges k).lower) (above s (u.point k) (ranges k).upper) e (not_not _ (and_parts (is_basic k u.rows) _ then.1.holds).1)
      where
        second : (p q : Bool) → p ≡ false → (p || q) ≡ true → q ≡ true
        second true q h w = absurd (cc)
        second false q h w = w

    at : (up : Bool) → goes_up s ranges u k ≡ up → ⊥
    at true e =
        let sum = sum_most s l o t.point u.point L.entries (terms_below s l t.point u.point 0 L.entries tidy (λ y z. term_rises e y z (cases_lt y r) (y == r) refl)) in
        let most : s.less (u.point L.basic) (t.point L.basic) ≡ false = (λ j. s.less (hv.is j) (hp.is j)) ∙ sum.is in
        let near : s.less (u.point k) (t.point k) ≡ true = below_less s o (ranges k).lower (u.point k) (t.point k) e (within k kr).not_below in
        let w : s.less (u.point L.basic) (t.point L.basic) ≡ true = subst (λ b. s.less (u.point b) (t.point b) ≡ true) (sym (row_of_basic k u.rows)) near in cc
    at false e =
        let sum = sum_most s l o u.point t.point L.entries (terms_below s l u.point t.point 0 L.entries tidy (λ y z. term_falls e y z (cases_lt y r) (y == r) refl)) in
        let most : s.less (t.point L.basic) (u.point L.basic) ≡ false = (λ j. s.less (hp.is j) (hv.is j)) ∙ sum.is in
        let near : s.less (t.point k) (u.point k) ≡ true = above_less s o (ranges k).upper (u.point k) (t.point k) (out_above e) (within k kr).not_above in
        let w : s.less (t.point L.basic) (u.point L.basic) ≡ true = subst (λ b. s.less (t.point b) (u.point b) ≡ true) (sym (row_of_basic k u.rows)) near in cc
