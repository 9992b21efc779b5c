-- Where the rule is stuck, no point meets the bounds.
use Rattle.std.proofs.Common.{◌≡◌, ℕ, suc, Bool, true, false, List, [], ◌∷◌, refl, sym, ◌∙◌, ap, arith, cond, ◌==◌, ◌||◌, not, subst, Option, Some, None}
use Rattle.std.proofs.lemmas.Bool.Decides.{nat_tests}
use Rattle.spec_tableaux.specs.Fields.{is_positive}
use Rattle.spec_tableaux.specs.Spaces.{Space, IsOrdered, IsSpace}
use Rattle.spec_tableaux.specs.Rows.{Entry, sum_of, coefficient_of, Row, Holds}
use Rattle.spec_tableaux.specs.SolvedForms.{AllVariables, IsTidy}
use Rattle.spec_tableaux.specs.Ranges.{can_rise, above, can_fall, below, Range, is_within, moves_by, crosses}
use Rattle.spec_tableaux.proofs.SolvedForms.{over_from}

-- x is at most y
pub record AtMost {A V : Type 0} (s : Space A V) (x y : V) : Type 0 where
  pub is : s.less y x ≡ false

-- less and at most go together
pub less_most : {A V : Type 0} (s : Space A V) → IsOrdered s → (x y z : V) → s.less x y ≡ true → AtMost s y z → s.less x z ≡ true
less_most s o x y z h m = by (s.less x z) refl (s.less z x) refl
  where
    by : (p : Bool) → s.less x z ≡ p → (q : Bool) → s.less z x ≡ q → s.less x z ≡ true
    by true e q f = e
    by false e true f = absurd (let g : s.less z y ≡ true = o.less_transitive z x y f h in let k = m.is in cc)
    by false e false f = absurd (let g : x ≡ z = o.less_total x z e f in let k : s.less z y ≡ true = subst (λ t. s.less t y ≡ true) g h in let w = m.is in cc)

pub most_trans : {A V : Type 0} (s : Space A V) → IsOrdered s → (x y z : V) → AtMost s x y → AtMost s y z → AtMost s x z
most_trans s o x y z h m = record { is = by (s.less z x) refl }
  where
    by : (p : Bool) → s.less z x ≡ p → p ≡ false
    by true e = absurd (let g : s.less z y ≡ true = less_most s o z x y e h in let w = m.is in cc)
    by false e = refl

most_plus : {A V : Type 0} (s : Space A V) → IsSpace s → IsOrdered s → (x y u v : V) → AtMost s x y → AtMost s u v → AtMost s (s.plus x u) (s.plus y v)
most_plus s l o x y u v h m = most_trans s o (s.plus x u) (s.plus x v) (s.plus y v)
    (record { is = o.less_plus x v u ∙ m.is })
    (record { is = (λ i. s.less (l.plus_commutative y v i) (l.plus_commutative x v i)) ∙ o.less_plus v y x ∙ h.is })

pub most_same : {A V : Type 0} (s : Space A V) → IsOrdered s → (x : V) → AtMost s x x
most_same s o x = record { is = o.less_irreflexive x }

pub most_scale : {A V : Type 0} (s : Space A V) → IsOrdered s → (k : A) (x y : V) → s.numbers.is_zero k ≡ false → (is_positive s.numbers k ≡ true → AtMost s x y) → (is_positive s.numbers k ≡ false → AtMost s y x) → AtMost s (s.scale k x) (s.scale k y)
most_scale s o k x y z p n = by (is_positive s.numbers k) refl
  where
    by : (q : Bool) → is_positive s.numbers k ≡ q → AtMost s (s.scale k x) (s.scale k y)
    by true e = record { is = o.less_scale k y x z ∙ ap (λ t. cond t (s.less y x) (s.less x y)) e ∙ (p e).is }
    by false e = record { is = o.less_scale k y x z ∙ ap (λ t. cond t (s.less y x) (s.less x y)) e ∙ (n e).is }

-- a sum is at most another where each term is
pub data Below {A V : Type 0} (s : Space A V) (u v : ℕ → V) : List (Entry A) → Type 0 where
  none : Below s u v []
  more : (e : Entry A) (es : List (Entry A)) → AtMost s (s.scale e.coefficient (u e.variable)) (s.scale e.coefficient (v e.variable)) → Below s u v es → Below s u v (e ∷ es)

pub sum_most : {A V : Type 0} (s : Space A V) → IsSpace s → IsOrdered s → (u v : ℕ → V) (es : List (Entry A)) → Below s u v es → AtMost s (sum_of s u es) (sum_of s v es)
sum_most s l o u v _ none = most_same s o s.origin
sum_most s l o u v _ (more e es h t) = most_plus s l o _ _ _ _ h (sum_most s l o u v es t)

rise_most : {A V : Type 0} (s : Space A V) → IsOrdered s → (x p : V) (upper : Option V) → can_rise s x upper ≡ false → above s p upper ≡ false → AtMost s p x
rise_most s o x p None h k = absurd (cc)
rise_most s o x p (Some t) h k = most_trans s o p t x (record { is = k }) (record { is = h })

fall_most : {A V : Type 0} (s : Space A V) → IsOrdered s → (x p : V) (lower : Option V) → can_fall s x lower ≡ false → below s p lower ≡ false → AtMost s x p
fall_most s o x p None h k = absurd (cc)
fall_most s o x p (Some t) h k = most_trans s o x t p (record { is = h }) (record { is = k })

-- a value within its range
pub record Within {A V : Type 0} (s : Space A V) (range : Range V) (x : V) : Type 0 where
  pub not_below : below s x range.lower ≡ false
  pub not_above : above s x range.upper ≡ false

pub within_of : {A V : Type 0} (s : Space A V) (ranges : ℕ → Range V) (v : ℕ → V) (y : ℕ) → is_within s ranges v y ≡ true → Within s (ranges y) (v y)
within_of s ranges v y h = by (below s (v y) (ranges y).lower) (above s (v y) (ranges y).upper) refl refl h
  where
    by : (p q : Bool) → below s (v y) (ranges y).lower ≡ p → above s (v y) (ranges y).upper ≡ q → not (p || q) ≡ true → Within s (ranges y) (v y)
    by true q e f h = absurd (cc)
    by false true e f h = absurd (cc)
    by false false e f h = record { not_below = e; not_above = f }

-- where x cannot move up, its term is greatest there
pub term_up : {A V : Type 0} (s : Space A V) → IsOrdered s → (range : Range V) (c : A) (x p : V) → s.numbers.is_zero c ≡ false → moves_by s range x true c ≡ false → Within s range p → AtMost s (s.scale c p) (s.scale c x)
term_up s o range c x p z m w = most_scale s o c p x z
    (λ e. rise_most s o x p range.upper (sym (λ i. cond (z i) false (cond (e i) (can_rise s x range.upper) (can_fall s x range.lower))) ∙ m) w.not_above)
    (λ e. fall_most s o x p range.lower (sym (λ i. cond (z i) false (cond (e i) (can_rise s x range.upper) (can_fall s x range.lower))) ∙ m) w.not_below)

pub term_down : {A V : Type 0} (s : Space A V) → IsOrdered s → (range : Range V) (c : A) (x p : V) → s.numbers.is_zero c ≡ false → moves_by s range x false c ≡ false → Within s range p → AtMost s (s.scale c x) (s.scale c p)
term_down s o range c x p z m w = most_scale s o c x p z
    (λ e. fall_most s o x p range.lower (sym (λ i. cond (z i) false (cond (e i) (can_fall s x range.lower) (can_rise s x range.upper))) ∙ m) w.not_below)
    (λ e. rise_most s o x p range.upper (sym (λ i. cond (z i) false (cond (e i) (can_fall s x range.lower) (can_rise s x range.upper))) ∙ m) w.not_above)

-- no variable of the list can move
pub record Still {A V : Type 0} (s : Space A V) (ranges : ℕ → Range V) (v : ℕ → V) (up : Bool) (es : List (Entry A)) : Type 0 where
  pub is : (x : ℕ) → moves_by s (ranges x) (v x) up (coefficient_of s.numbers x es) ≡ false

pub coefficient_none : {A V : Type 0} (s : Space A V) (x : ℕ) (es : List (Entry A)) → AllVariables (λ y. (y == x) ≡ false) es → coefficient_of s.numbers x es ≡ s.numbers.zero
coefficient_none s x [] o = refl
coefficient_none s x (e ∷ es) o = by (e.variable == x) o.0 (coefficient_none s x es o.1)
  where
    by : (q : Bool) → q ≡ false → coefficient_of s.numbers x es ≡ s.numbers.zero → cond q e.coefficient (coefficient_of s.numbers x es) ≡ s.numbers.zero
    by true h g = absurd (cc)
    by false h g = g

pub still_first : {A V : Type 0} (s : Space A V) (ranges : ℕ → Range V) (v : ℕ → V) (up : Bool) (e : Entry A) (es : List (Entry A)) → Still s ranges v up (e ∷ es)
    → moves_by s (ranges e.variable) (v e.variable) up e.coefficient ≡ false
still_first s ranges v up e es h = sym (ap (λ t. moves_by s (ranges e.variable) (v e.variable) up (cond t e.coefficient (coefficient_of s.numbers e.variable es))) (let k : (e.variable == e.variable) ≡ true = grind (arith, nat_tests) in k)) ∙ h.is e.variable

moves_by_zero : {A V : Type 0} (s : Space A V) → IsSpace s → (range : Range V) (x : V) (up : Bool) → moves_by s range x up s.numbers.zero ≡ false
moves_by_zero s l range x up = ap (λ t. cond t false (cond (is_positive s.numbers s.numbers.zero) (cond up (can_rise s x range.upper) (can_fall s x range.lower)) (cond up (can_fall s x range.lower) (can_rise s x range.upper)))) l.numbers.zero_is_zero

pub still_rest : {A V : Type 0} (s : Space A V) → IsSpace s → (ranges : ℕ → Range V) (v : ℕ → V) (up : Bool) (e : Entry A) (es : List (Entry A)) → IsTidy s.numbers (suc e.variable) es → Still s ranges v up (e ∷ es) → Still s ranges v up es
still_rest s l ranges v up e es t h = record { is = λ x. by x (e.variable == x) refl }
  where
    by : (x : ℕ) (q : Bool) → (e.variable == x) ≡ q → moves_by s (ranges x) (v x) up (coefficient_of s.numbers x es) ≡ false
    by x true k = ap (moves_by s (ranges x) (v x) up) (coefficient_none s x es (over_from s (suc e.variable) x es (let w : e.variable ≡ x = grind (arith, nat_tests) in omega arith) t)) ∙ moves_by_zero s l (ranges x) (v x) up
    by x false k = sym (ap (λ q. moves_by s (ranges x) (v x) up (cond q e.coefficient (coefficient_of s.numbers x es))) k) ∙ h.is x

still_up : {A V : Type 0} (s : Space A V) → IsSpace s → IsOrdered s → (ranges : ℕ → Range V) (v p : ℕ → V) (at : ℕ) (es : List (Entry A)) → ((y : ℕ) → Within s (ranges y) (p y))
    → IsTidy s.numbers at es → Still s ranges v true es → Below s p v es
still_up s l o ranges v p at [] w t h = none
still_up s l o ranges v p at (e ∷ es) w t h = more e es (term_up s o (ranges e.variable) e.coefficient (v e.variable) (p e.variable) t.1 (still_first s ranges v true e es h) (w e.variable))
    (still_up s l o ranges v p (suc e.variable) es w t.2 (still_rest s l ranges v true e es t.2 h))

still_down : {A V : Type 0} (s : Space A V) → IsSpace s → IsOrdered s → (ranges : ℕ → Range V) (v p : ℕ → V) (at : ℕ) (es : List (Entry A)) → ((y : ℕ) → Within s (ranges y) (p y))
    → IsTidy s.numbers at es → Still s ranges v false es → Below s v p es
still_down s l o ranges v p at [] w t h = none
still_down s l o ranges v p at (e ∷ es) w t h = more e es (term_down s o (ranges e.variable) e.coefficient (v e.variable) (p e.variable) t.1 (still_first s ranges v false e es h) (w e.variable))
    (still_down s l o ranges v p (suc e.variable) es w t.2 (still_rest s l ranges v false e es t.2 h))

-- the point gives a variable less than its least value, another point that keeps the bounds cannot give less
pub below_less : {A V : Type 0} (s : Space A V) → IsOrdered s → (lower : Option V) (x p : V) → below s x lower ≡ true → below s p lower ≡ false → s.less x p ≡ true
below_less s o None x p h k = absurd (cc)
below_less s o (Some l) x p h k = less_most s o x l p h (record { is = k })

pub most_less : {A V : Type 0} (s : Space A V) → IsOrdered s → (x y z : V) → AtMost s x y → s.less y z ≡ true → s.less x z ≡ true
most_less s o x y z m h = by (s.less x z) refl (s.less z x) refl
  where
    by : (p : Bool) → s.less x z ≡ p → (q : Bool) → s.less z x ≡ q → s.less x z ≡ true
    by true e q f = e
    by false e true f = absurd (let g : s.less y x ≡ true = o.less_transitive y z x h f in let k = m.is in cc)
    by false e false f = absurd (let g : x ≡ z = o.less_total x z e f in let k : s.less y x ≡ true = subst (λ t. s.less y t ≡ true) (sym g) h in let w = m.is in cc)

pub above_less : {A V : Type 0} (s : Space A V) → IsOrdered s → (upper : Option V) (x p : V) → above s x upper ≡ true → above s p upper ≡ false → s.less p x ≡ true
above_less s o None x p h k = absurd (cc)
above_less s o (Some t) x p h k = most_less s o p t x (record { is = k }) h

pub row_below : {A V : Type 0} (s : Space A V) → IsSpace s → IsOrdered s → (ranges : ℕ → Range V) (v p : ℕ → V) (r : Row A) → IsTidy s.numbers 0 r.entries → Holds s v r → Holds s p r
    → ((y : ℕ) → Within s (ranges y) (p y)) → Still s ranges v true r.entries → below s (v r.basic) (ranges r.basic).lower ≡ true → ⊥
row_below s l o ranges v p r t hv hp w h k =
    let a : AtMost s (p r.basic) (v r.basic) = let m = sum_most s l o p v r.entries (still_up s l o ranges v p 0 r.entries w t h) in
    record { is = (λ i. s.less (hv.is i) (hp.is i)) ∙ m.is } in
    let b : s.less (v r.basic) (p r.basic) ≡ true = below_less s o (ranges r.basic).lower (v r.basic) (p r.basic) k (w r.basic).not_below in
    let c = a.is in cc

pub row_above : {A V : Type 0} (s : Space A V) → IsSpace s → IsOrdered s → (ranges : ℕ → Range V) (v p : ℕ → V) (r : Row A) → IsTidy s.numbers 0 r.entries → Holds s v r → Holds s p r
    → ((y : ℕ) → Within s (ranges y) (p y)) → Still s ranges v false r.entries → above s (v r.basic) (ranges r.basic).upper ≡ true → ⊥
row_above s l o ranges v p r t hv hp w h k =
    let a : AtMost s (v r.basic) (p r.basic) = let m = sum_most s l o v p r.entries (still_down s l o ranges v p 0 r.entries w t h) in
    record { is = (λ i. s.less (hp.is i) (hv.is i)) ∙ m.is } in
    let b : s.less (p r.basic) (v r.basic) ≡ true = above_less s o (ranges r.basic).upper (v r.basic) (p r.basic) k (w r.basic).not_above in
    let c = a.is in cc

-- two bounds cross
pub crossed_none : {A V : Type 0} (s : Space A V) → IsOrdered s → (lower upper : Option V) (p : V) → crosses s lower upper ≡ true → below s p lower ≡ false → above s p upper ≡ false → ⊥
crossed_none s o None upper p c b a = cc
crossed_none s o (Some l) None p c b a = cc
crossed_none s o (Some l) (Some h) p c b a = let k : s.less h p ≡ true = less_most s o h l p c (record { is = b }) in cc
