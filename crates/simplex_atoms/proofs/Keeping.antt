-- Where values keep the bounds of a literal, a point keeps the literal.
use Rattle.std.proofs.Common.{◌≡◌, ℕ, Bool, true, false, not, cond, List, [], ◌∷◌, Option, Some, refl, sym, ◌∙◌, ap, subst, true≢false}
use Rattle.std.proofs.lemmas.List.Elements.{All-head, All-tail}
use Rattle.std.proofs.lemmas.Option.{none-some, same_Some}
use Rattle.spec_numbers.specs.Fractions.{opposite}
use Rattle.spec_sorts.specs.Terms.{Less, AtMost, Term, app, nil, cons, pair}
use Rattle.spec_arithmetic.specs.Contradictions.{are_numbers}
use Rattle.spec_arithmetic.proofs.General.{same_ok}
use Rattle.spec_tableaux.specs.Fields.{is_positive}
use Rattle.spec_tableaux.specs.Spaces.{Pair}
use Rattle.spec_tableaux.specs.Rows.{Solves}
use Rattle.spec_tableaux.specs.Numbers.{Number, numbers, fractions}
use Rattle.spec_tableaux.proofs.Numbers.{numbers_are_ordered_field}
use Rattle.spec_tableaux.proofs.Signs.{sum_zero_right, zero_product, opposite_zero}
use Rattle.spec_simplex.specs.Constraints.{Relation, below, at_most, equals, at_least, above, Constraint, saying, where_true, constraint_by, form_of}
use Rattle.spec_simplex.specs.Points.{Point, base_at, tilt_at, relates, KeepsLiteral}
use Rattle.spec_simplex.proofs.PairOrder.{relates_below, relates_above, relates_equals}
use Rattle.term_core.specs.declared.ids.Lit.{Lit}
use Rattle.tableau.specs.Numbers.{number_of}
use Rattle.simplex_bounds.specs.declared.bounds.Side.{Side}
use Rattle.simplex_bounds.specs.declared.bounds.Side.TheVariants.{Lower, Upper}
use Rattle.spec_tableaux.specs.Points.{deltas}
use Rattle.simplex_check.proofs.Points.{deltas_are_space, deltas_are_ordered}
use Rattle.simplex_atoms.specs.declared.slack.Comparison.{Comparison}
use Rattle.simplex_atoms.specs.declared.slack.Comparison.TheVariants as kinds
use Rattle.simplex_atoms.specs.declared.slack.Slack.{Slack}
use Rattle.simplex_atoms.specs.Owners.{AreOwned}
use Rattle.simplex_atoms.specs.Slacks.{AtomSetting, relation_meant, relation_by, HasSlackIn}
use Rattle.simplex_atoms.specs.Limits.{Limit, limit_on, limits_where, limits_by, KeepsLimit, AreLimitsKept}
use Rattle.simplex_atoms.proofs.Values.{base_comes, tilt_comes}

-- a number without an infinitesimal part
abbrev flat : Number → Pair Number
flat q = record { base = q; tilt = numbers.zero }

-- a factor times a value, and a constant
abbrev come : Number → Pair Number → Number → Pair Number
come k x c = deltas.plus (deltas.scale k x) (flat c)

pair_same : (x y : Pair Number) → x.base ≡ y.base → x.tilt ≡ y.tilt → x ≡ y
pair_same x y e f = λ i. record { base = e i; tilt = f i }

-- it is 0 at minus the constant, over the factor
bound_nought : (k c q : Number) → numbers.is_zero k ≡ false → q ≡ numbers.times (numbers.opposite c) (numbers.inverse k) → come k (flat q) c ≡ deltas.origin
bound_nought k c q z e = pair_same _ _ base tilt
  where
    base : numbers.plus (numbers.times k q) c ≡ numbers.zero
    base =
        let l = numbers_are_ordered_field in
        ap (λ n. numbers.plus n c) (ap (numbers.times k) e ∙ l.product_commutative k _ ∙ l.product_associative (numbers.opposite c) (numbers.inverse k) k
        ∙ ap (numbers.times (numbers.opposite c)) (l.product_inverse k z) ∙ l.product_commutative (numbers.opposite c) numbers.one ∙ l.product_one (numbers.opposite c))
        ∙ l.sum_opposite c

    tilt : numbers.plus (numbers.times k numbers.zero) numbers.zero ≡ numbers.zero
    tilt =
        let l = numbers_are_ordered_field in
        sum_zero_right numbers l _ ∙ l.product_commutative k numbers.zero ∙ zero_product numbers l k

-- it compares with 0 as the value does with this bound, or the other way round
module _ (k c q : Number) (x : Pair Number) (z : numbers.is_zero k ≡ false) (e : q ≡ numbers.times (numbers.opposite c) (numbers.inverse k)) where
  less_left : deltas.less (come k x c) deltas.origin ≡ cond (is_positive numbers k) (deltas.less x (flat q)) (deltas.less (flat q) x)
  less_left =
      ap (deltas.less (come k x c)) (sym (bound_nought k c q z e))
      ∙ (λ i. deltas.less (deltas_are_space.plus_commutative (deltas.scale k x) (flat c) i) (deltas_are_space.plus_commutative (deltas.scale k (flat q)) (flat c) i))
      ∙ deltas_are_ordered.less_plus (flat c) (deltas.scale k x) (deltas.scale k (flat q)) ∙ deltas_are_ordered.less_scale k x (flat q) z

  less_right : deltas.less deltas.origin (come k x c) ≡ cond (is_positive numbers k) (deltas.less (flat q) x) (deltas.less x (flat q))
  less_right =
      ap (λ (o : Pair Number). deltas.less o (come k x c)) (sym (bound_nought k c q z e))
      ∙ (λ i. deltas.less (deltas_are_space.plus_commutative (deltas.scale k (flat q)) (flat c) i) (deltas_are_space.plus_commutative (deltas.scale k x) (flat c) i))
      ∙ deltas_are_ordered.less_plus (flat c) (deltas.scale k (flat q)) (deltas.scale k x) ∙ deltas_are_ordered.less_scale k (flat q) x z

-- strict bounds

less_itself : (a : Number) → numbers.is_negative (numbers.plus a (numbers.opposite a)) ≡ false
less_itself a =
    let l = numbers_are_ordered_field in
    ap numbers.is_negative (l.sum_commutative a (numbers.opposite a) ∙ l.sum_opposite a) ∙ l.zero_is_not_negative

tilt_decides : (q a b : Number) → numbers.is_negative (numbers.plus a (numbers.opposite b)) ≡ true
    → deltas.less (record { base = q; tilt = a }) (record { base = q; tilt = b }) ≡ true
tilt_decides q a b h = λ i. cond (less_itself q i) true (cond (less_itself q i) false (h i))

minus_one : numbers.is_negative (numbers.opposite numbers.one) ≡ true
unfolding numbers fractions opposite
minus_one = refl

one_is_above : numbers.is_negative (numbers.plus numbers.zero (numbers.opposite numbers.one)) ≡ true
one_is_above = ap numbers.is_negative (numbers_are_ordered_field.sum_zero (numbers.opposite numbers.one)) ∙ minus_one

one_is_below : numbers.is_negative (numbers.plus (numbers.opposite numbers.one) (numbers.opposite numbers.zero)) ≡ true
one_is_below =
    let l = numbers_are_ordered_field in
    ap numbers.is_negative (ap (numbers.plus (numbers.opposite numbers.one)) (opposite_zero numbers l) ∙ sum_zero_right numbers l (numbers.opposite numbers.one)) ∙ minus_one

-- what is not above a is below b, where a is
less_from_left : (a x b : Pair Number) → deltas.less a x ≡ false → deltas.less a b ≡ true → deltas.less x b ≡ true
less_from_left a x b h k = by (deltas.less x b) refl (deltas.less b x) refl
  where
    by : (p : Bool) → deltas.less x b ≡ p → (r : Bool) → deltas.less b x ≡ r → deltas.less x b ≡ true
    by true e r f = e
    by false e true f = absurd (true≢false (sym (deltas_are_ordered.less_transitive a b x k f) ∙ h))
    by false e false f = absurd (true≢false (sym k ∙ ap (deltas.less a) (sym (deltas_are_ordered.less_total x b e f)) ∙ h))

-- what is not below a is above b, where a is
less_from_right : (a x b : Pair Number) → deltas.less x a ≡ false → deltas.less b a ≡ true → deltas.less b x ≡ true
less_from_right a x b h k = by (deltas.less b x) refl (deltas.less x b) refl
  where
    by : (p : Bool) → deltas.less b x ≡ p → (r : Bool) → deltas.less x b ≡ r → deltas.less b x ≡ true
    by true e r f = e
    by false e true f = absurd (true≢false (sym (deltas_are_ordered.less_transitive x b a f k) ∙ h))
    by false e false f = absurd (true≢false (sym k ∙ ap (λ (y : Pair Number). deltas.less y a) (deltas_are_ordered.less_total b x e f) ∙ h))

under_upper : (q : Number) (x : Pair Number) → deltas.less (record { base = q; tilt = numbers.opposite numbers.one }) x ≡ false → deltas.less x (flat q) ≡ true
under_upper q x h = less_from_left _ x (flat q) h (tilt_decides q (numbers.opposite numbers.one) numbers.zero one_is_below)

over_lower : (q : Number) (x : Pair Number) → deltas.less x (record { base = q; tilt = numbers.one }) ≡ false → deltas.less (flat q) x ≡ true
over_lower q x h = less_from_right _ x (flat q) h (tilt_decides q numbers.zero numbers.one one_is_above)

-- where the bounds of a relation are kept, the form compares so with 0
module _ (slack : Slack) (l : Lit) (v : ℕ → Pair Number) (z : numbers.is_zero (number_of slack.factor) ≡ false)
    (e : number_of slack.bound ≡ numbers.times (numbers.opposite (number_of slack.constant)) (numbers.inverse (number_of slack.factor))) where
  abbrev value : Pair Number
  value = come (number_of slack.factor) (v slack.variable) (number_of slack.constant)

  abbrev x : Pair Number
  x = v slack.variable

  abbrev goal : Pair Number
  goal = flat (number_of slack.bound)

  relates_left : (up : Bool) → is_positive numbers (number_of slack.factor) ≡ up → deltas.less value deltas.origin ≡ cond up (deltas.less x goal) (deltas.less goal x)
  relates_left up p =
      less_left (number_of slack.factor) (number_of slack.constant) (number_of slack.bound) x z e ∙ ap (λ b. cond b (deltas.less x goal) (deltas.less goal x)) p

  relates_right : (up : Bool) → is_positive numbers (number_of slack.factor) ≡ up → deltas.less deltas.origin value ≡ cond up (deltas.less goal x) (deltas.less x goal)
  relates_right up p =
      less_right (number_of slack.factor) (number_of slack.constant) (number_of slack.bound) x z e ∙ ap (λ b. cond b (deltas.less goal x) (deltas.less x goal)) p

  -- the first of the bounds is kept
  head : (side : Side) (strict : Bool) (bs : List Limit) → AreLimitsKept v (limit_on slack l side strict ∷ bs) → KeepsLimit v (limit_on slack l side strict)
  head side strict bs h = All-head (KeepsLimit v) (limit_on slack l side strict) bs h

  kept_relates : (r : Relation) (up : Bool) → is_positive numbers (number_of slack.factor) ≡ up → AreLimitsKept v (limits_where (Some r) up slack l)
      → relates r value.base.fraction value.tilt.fraction ≡ true
  kept_relates below true p h = relates_below value ∙ relates_left true p ∙ under_upper (number_of slack.bound) x (head Upper true [] h)
  kept_relates below false p h = relates_below value ∙ relates_left false p ∙ over_lower (number_of slack.bound) x (head Lower true [] h)
  kept_relates above true p h = relates_above value ∙ relates_right true p ∙ over_lower (number_of slack.bound) x (head Lower true [] h)
  kept_relates above false p h = relates_above value ∙ relates_right false p ∙ under_upper (number_of slack.bound) x (head Upper true [] h)
  kept_relates at_most true p h = ap not (relates_above value ∙ relates_right true p ∙ head Upper false [] h)
  kept_relates at_most false p h = ap not (relates_above value ∙ relates_right false p ∙ head Lower false [] h)
  kept_relates at_least true p h = ap not (relates_below value ∙ relates_left true p ∙ head Lower false [] h)
  kept_relates at_least false p h = ap not (relates_below value ∙ relates_left false p ∙ head Upper false [] h)
  kept_relates equals up p h =
      let upper = limit_on slack l Upper false in
      let same : x ≡ goal =
      deltas_are_ordered.less_total x goal (head Lower false (upper ∷ []) h) (All-head (KeepsLimit v) upper [] (All-tail (KeepsLimit v) (limit_on slack l Lower false) (upper ∷ []) h)) in
      (relates_equals value).1
      (ap (λ (y : Pair Number). come (number_of slack.factor) y (number_of slack.constant)) same
      ∙ bound_nought (number_of slack.factor) (number_of slack.constant) (number_of slack.bound) z e)

-- what a literal says of the form of its atom

pub kind_below : (k : Comparison) → below ≡ relation_meant k → k ≡ kinds.Less
kind_below kinds.Less e = refl
kind_below kinds.AtMost e = cc
kind_below kinds.Equal e = cc

pub kind_at_most : (k : Comparison) → at_most ≡ relation_meant k → k ≡ kinds.AtMost
kind_at_most kinds.Less e = cc
kind_at_most kinds.AtMost e = refl
kind_at_most kinds.Equal e = cc

pub positively : (k : Comparison) → relation_by k true ≡ Some (relation_meant k)
positively kinds.Less = refl
positively kinds.AtMost = refl
positively kinds.Equal = refl

-- an atom's constraint, and that of its negation, have one form
less_agrees : (b : Bool) (s u : Term) (c d : Constraint) (k : Comparison) → where_true b (saying below (pair Less s u) s u) ≡ Some c → c.relation ≡ relation_meant k
    → where_true b (saying at_least (pair Less s u) s u) ≡ Some d → (relation_by k false ≡ Some d.relation) × (form_of d ≡ form_of c)
less_agrees false s u c d k p r q = absurd (none-some c p)
less_agrees true s u c d k p r q =
    let mine = same_Some (saying below (pair Less s u) s u) c p in
    let other = same_Some (saying at_least (pair Less s u) s u) d q in
    let kind = kind_below k (ap (λ (x : Constraint). x.relation) mine ∙ r) in
    (ap (λ j. relation_by j false) kind ∙ ap (λ (x : Constraint). Some x.relation) other, sym (ap form_of other) ∙ ap form_of mine)

at_most_agrees : (b : Bool) (s u : Term) (c d : Constraint) (k : Comparison) → where_true b (saying at_most (pair AtMost s u) s u) ≡ Some c → c.relation ≡ relation_meant k
    → where_true b (saying above (pair AtMost s u) s u) ≡ Some d → (relation_by k false ≡ Some d.relation) × (form_of d ≡ form_of c)
at_most_agrees false s u c d k p r q = absurd (none-some c p)
at_most_agrees true s u c d k p r q =
    let mine = same_Some (saying at_most (pair AtMost s u) s u) c p in
    let other = same_Some (saying above (pair AtMost s u) s u) d q in
    let kind = kind_at_most k (ap (λ (x : Constraint). x.relation) mine ∙ r) in
    (ap (λ j. relation_by j false) kind ∙ ap (λ (x : Constraint). Some x.relation) other, sym (ap form_of other) ∙ ap form_of mine)

negatively : (t : Term) (c d : Constraint) (k : Comparison) → constraint_by true t ≡ Some c → c.relation ≡ relation_meant k → constraint_by false t ≡ Some d
    → (relation_by k false ≡ Some d.relation) × (form_of d ≡ form_of c)
unfolding constraint_by
negatively (app Less (cons s (cons u nil))) c d k p r q = less_agrees (are_numbers s u) s u c d k p r q
negatively (app AtMost (cons s (cons u nil))) c d k p r q = at_most_agrees (are_numbers s u) s u c d k p r q
negatively t c d k p r q = absurd (none-some d q)

agree : (t : Term) (b : Bool) (c d : Constraint) (k : Comparison) → constraint_by true t ≡ Some c → c.relation ≡ relation_meant k → constraint_by b t ≡ Some d
    → (relation_by k b ≡ Some d.relation) × (form_of d ≡ form_of c)
agree t true c d k p r q =
    let same = same_Some c d (sym p ∙ q) in
    (positively k ∙ ap Some (sym r ∙ ap (λ (x : Constraint). x.relation) same), ap form_of (sym same))
agree t false c d k p r q = negatively t c d k p r q

-- the law
pub kept : (s : AtomSetting) (slack : Slack) (atom : Term) → HasSlackIn s slack atom → (p : Point) (v : ℕ → Pair Number) → AreOwned s.table s.owners p v → Solves deltas v s.listed
    → (l : Lit) → AreLimitsKept v (limits_by slack l) → KeepsLiteral p (record { atom = atom; positive = l.positive })
kept s slack atom is p v o h l bounds d says f has =
    let both = agree atom l.positive is.constraint d slack.kind is.says is.kind says in
    let form : f ≡ is.form = same_ok f is.form (sym has ∙ both.1 ∙ is.has) in
    let Bounds : Option Relation → Type 0 = λ r. AreLimitsKept v (limits_where r (is_positive numbers (number_of slack.factor)) slack l) in
    let there = kept_relates slack l v is.is.factor is.is.bound d.relation _ refl (subst Bounds both.0 bounds) in
    let base = ap (base_at p) form ∙ base_comes s slack is.form is.is p v o h in
    let tilt = ap (tilt_at p) form ∙ tilt_comes s slack is.form is.is p v o h ∙ ap (λ (n : Number). n.fraction) (sym (sum_zero_right numbers numbers_are_ordered_field (numbers.times (number_of slack.factor) (v slack.variable).tilt))) in
    (λ i. relates d.relation (base i) (tilt i)) ∙ there
