-- What the literal of a bound that stops a variable adds to a weighted sum.
use Rattle.std.proofs.Common.{◌≡◌, ℕ, Bool, true, false, not, cond, List, Option, Some, None, refl, sym, ◌∙◌, ap, subst, true≢false}
use Rattle.std.specs.Prelude.{Contains}
use Rattle.std.proofs.lemmas.List.Elements.{All-contains}
use Rattle.std.proofs.lemmas.Option.{none-some, same_Some}
use Rattle.spec_numbers.specs.Fractions.{Fraction, IsReduced, zero_fraction, times, opposite}
use Rattle.spec_numbers.proofs.Field.{opposite-reduced}
use Rattle.spec_text.proofs.Members.{none}
use Rattle.spec_sorts.specs.Terms.{Equal, Less, AtMost, Term, app, nil, cons, pair}
use Rattle.spec_arithmetic.specs.Contradictions.{are_numbers}
use Rattle.spec_arithmetic.specs.Signs.{is_zero, size}
use Rattle.spec_arithmetic.specs.Forms.{form_value}
use Rattle.spec_tableaux.specs.Fields.{is_positive}
use Rattle.spec_tableaux.specs.Spaces.{Pair, as_space}
use Rattle.spec_tableaux.specs.Rows.{Entry, Solves}
use Rattle.spec_tableaux.specs.Numbers.{Number, numbers, fractions}
use Rattle.spec_tableaux.proofs.Numbers.{number_is, numbers_are_ordered_field}
use Rattle.spec_tableaux.proofs.Signs.{opposite_twice, opposite_is, opposite_not_zero, zero_product}
use Rattle.spec_simplex.specs.Constraints.{Relation, below, at_most, equals, at_least, above, Constraint, saying, where_true, constraint_by, constraint_of}
use Rattle.spec_simplex.specs.Weights.{Summand, IsSummand, signed_weight, product_at, is_strict_by}
use Rattle.spec_simplex.proofs.PairSigns.{zero_is}
use Rattle.ratio128.specs.Meant.{fraction}
use Rattle.term_core.specs.declared.ids.Lit.{Lit}
use Rattle.term_core.specs.Tables.{TableView, term_at, literal_at}
use Rattle.tableau.specs.Numbers.{number_of}
use Rattle.simplex_bounds.specs.declared.bounds.Bound.{Bound}
use Rattle.simplex_bounds.specs.declared.bounds.Side.{Side}
use Rattle.simplex_bounds.specs.declared.bounds.Side.TheVariants.{Lower, Upper}
use Rattle.simplex_bounds.specs.Deltas.{pair_of}
use Rattle.simplex_bounds.proofs.Keeping.{strongest_is_held}
use Rattle.simplex_atoms.specs.declared.slack.Comparison.{Comparison}
use Rattle.simplex_atoms.specs.declared.slack.Comparison.TheVariants as kinds
use Rattle.simplex_atoms.specs.declared.slack.Slack.{Slack}
use Rattle.simplex_atoms.specs.Owners.{AreOwned}
use Rattle.simplex_atoms.specs.Slacks.{AtomSetting, relation_meant, relation_by, HasSlackIn, slack_in}
use Rattle.simplex_atoms.specs.Limits.{Limit, limit_of, limits_where, limits_by, side_by, signed_by, weight_of, is_strict}
use Rattle.simplex_atoms.proofs.Values.{form_comes}
use Rattle.simplex_atoms.proofs.Weighing.{weighs, size_reduced}
use Rattle.simplex_explain.specs.declared.weighted.Weighted.{Weighted}
use Rattle.simplex_explain.specs.Stops.{IsStatedBound, AreStated, stopping_side, stop_of, IsStopped, value_of, beyond}
use Rattle.spec_causes.specs.Reasons.{directed}
use Rattle.simplex_atoms.proofs.Keeping.{kind_below, kind_at_most, positively}
use Rattle.simplex_explain.specs.BoundReasons.{Footing, weight_by, IsBoundReason}

-- What bounds are that literals state.
pub record LimitLaws : Type 0 where
  pub states : (slack : Slack) (l : Lit) (b : Limit) → Contains (limits_by slack l) b → (b.variable ≡ slack.variable) × (b.literal ≡ l) × (b.value.base ≡ number_of slack.bound)
  pub tilt : (slack : Slack) (l : Lit) (r : Relation) → relation_by slack.kind l.positive ≡ Some r → (b : Limit) → Contains (limits_by slack l) b → is_strict r ≡ false → b.value.tilt ≡ numbers.zero

-- what a literal of a placed atom says

kind_equals : (k : Comparison) → equals ≡ relation_meant k → k ≡ kinds.Equal
kind_equals kinds.Less e = cc
kind_equals kinds.AtMost e = cc
kind_equals kinds.Equal e = refl

-- the constraint with another relation
abbrev pub with_relation : Relation → Constraint → Constraint
with_relation r c = saying r c.atom c.left c.right

less_reads : (b : Bool) (s u : Term) (c : Constraint) (k : Comparison) (r : Relation) → where_true b (saying below (pair Less s u) s u) ≡ Some c → c.relation ≡ relation_meant k
    → relation_by k false ≡ Some r → where_true b (saying at_least (pair Less s u) s u) ≡ Some (with_relation r c)
less_reads false s u c k r p q e = absurd (none-some c p)
less_reads true s u c k r p q e =
    let mine = same_Some (saying below (pair Less s u) s u) c p in
    let kind = kind_below k (ap (λ (x : Constraint). x.relation) mine ∙ q) in
    let relation : at_least ≡ r = same_Some at_least r (sym (ap (λ j. relation_by j false) kind) ∙ e) in
    (λ i. Some (with_relation (relation i) (mine i)))

at_most_reads : (b : Bool) (s u : Term) (c : Constraint) (k : Comparison) (r : Relation) → where_true b (saying at_most (pair AtMost s u) s u) ≡ Some c → c.relation ≡ relation_meant k
    → relation_by k false ≡ Some r → where_true b (saying above (pair AtMost s u) s u) ≡ Some (with_relation r c)
at_most_reads false s u c k r p q e = absurd (none-some c p)
at_most_reads true s u c k r p q e =
    let mine = same_Some (saying at_most (pair AtMost s u) s u) c p in
    let kind = kind_at_most k (ap (λ (x : Constraint). x.relation) mine ∙ q) in
    let relation : above ≡ r = same_Some above r (sym (ap (λ j. relation_by j false) kind) ∙ e) in
    (λ i. Some (with_relation (relation i) (mine i)))

equal_reads : (b : Bool) (s u : Term) (c : Constraint) (k : Comparison) (r : Relation) → where_true b (saying equals (pair Equal s u) s u) ≡ Some c → c.relation ≡ relation_meant k → relation_by k false ≡ Some r → ⊥
equal_reads false s u c k r p q e = none-some c p
equal_reads true s u c k r p q e =
    let kind = kind_equals k (ap (λ (x : Constraint). x.relation) (same_Some (saying equals (pair Equal s u) s u) c p) ∙ q) in
    none-some r (sym (ap (λ j. relation_by j false) kind) ∙ e)

negatively : (t : Term) (c : Constraint) (k : Comparison) (r : Relation) → constraint_by true t ≡ Some c → c.relation ≡ relation_meant k → relation_by k false ≡ Some r
    → constraint_by false t ≡ Some (with_relation r c)
unfolding constraint_by
negatively (app Less (cons s (cons u nil))) c k r p q e = less_reads (are_numbers s u) s u c k r p q e
negatively (app AtMost (cons s (cons u nil))) c k r p q e = at_most_reads (are_numbers s u) s u c k r p q e
negatively (app Equal (cons s (cons u nil))) c k r p q e = absurd (equal_reads (are_numbers s u) s u c k r p q e)
negatively t c k r p q e = absurd (none-some c p)

pub reads : (t : Term) (b : Bool) (c : Constraint) (k : Comparison) (r : Relation) → constraint_by true t ≡ Some c → c.relation ≡ relation_meant k → relation_by k b ≡ Some r
    → constraint_by b t ≡ Some (with_relation r c)
reads t true c k r p q e =
    let relation : c.relation ≡ r = q ∙ same_Some (relation_meant k) r (sym (positively k) ∙ e) in
    p ∙ (λ i. Some (with_relation (relation i) c))
reads t false c k r p q e = negatively t c k r p q e

-- numbers

abbrev minus_one : Number
minus_one = numbers.opposite numbers.one

-- a form's value times a weight is the distance from the bound times the weight of this
scaled : (w k c q x s : Number) → numbers.is_zero k ≡ false → q ≡ numbers.times (numbers.opposite c) (numbers.inverse k) → numbers.times w k ≡ s
    → numbers.times w (numbers.plus (numbers.times k x) c) ≡ numbers.times s (numbers.plus x (numbers.times minus_one q))
scaled w k c q x s z e p =
    let l = numbers_are_ordered_field in
    let back : numbers.times k q ≡ numbers.opposite c =
    ap (numbers.times k) e ∙ l.product_commutative k _ ∙ l.product_associative (numbers.opposite c) (numbers.inverse k) k
    ∙ ap (numbers.times (numbers.opposite c)) (l.product_inverse k z) ∙ l.product_commutative (numbers.opposite c) numbers.one ∙ l.product_one (numbers.opposite c) in
    let constant : numbers.times k (numbers.times minus_one q) ≡ c =
    sym (l.product_associative k minus_one q) ∙ ap (λ a. numbers.times a q) (l.product_commutative k minus_one) ∙ l.product_associative minus_one k q
    ∙ ap (numbers.times minus_one) back ∙ sym (opposite_is numbers l (numbers.opposite c)) ∙ opposite_twice numbers l c in
    ap (numbers.times w) (sym (l.distributive k x (numbers.times minus_one q) ∙ ap (numbers.plus (numbers.times k x)) constant))
    ∙ sym (l.product_associative w k (numbers.plus x (numbers.times minus_one q))) ∙ ap (λ a. numbers.times a (numbers.plus x (numbers.times minus_one q))) p

no_tilt : (s a : Number) → a ≡ numbers.zero → numbers.times s (numbers.plus numbers.zero (numbers.times minus_one a)) ≡ numbers.zero
no_tilt s a e =
    let l = numbers_are_ordered_field in
    ap (numbers.times s) (l.sum_zero (numbers.times minus_one a) ∙ ap (numbers.times minus_one) e ∙ l.product_commutative minus_one numbers.zero ∙ zero_product numbers l minus_one)
    ∙ l.product_commutative s numbers.zero ∙ zero_product numbers l s

signed_reduced : (r : Relation) (w : Fraction) → IsReduced w → IsReduced (signed_weight r w)
signed_reduced below w h = size_reduced w h
signed_reduced at_most w h = size_reduced w h
signed_reduced equals w h = h
signed_reduced at_least w h = opposite-reduced (size w) (size_reduced w h)
signed_reduced above w h = opposite-reduced (size w) (size_reduced w h)

-- the signed weight as a number
abbrev signed_number : Relation → (w : Fraction) → IsReduced w → Number
signed_number r w h = record { fraction = signed_weight r w; reduced = signed_reduced r w h }

number_product : (a b s : Number) → times a.fraction b.fraction ≡ s.fraction → numbers.times a b ≡ s
unfolding numbers fractions
number_product a b s e = number_is _ s e

product_of : (a : Number) (x : Fraction) (b : Number) → x ≡ b.fraction → times a.fraction x ≡ (numbers.times a b).fraction
unfolding numbers fractions
product_of a x b e = ap (times a.fraction) e

strict_zero : (r : Relation) (w : Fraction) → is_strict r ≡ true → w ≡ zero_fraction → signed_weight r w ≡ zero_fraction
unfolding size opposite
strict_zero below w s e = ap size e
strict_zero above w s e = ap (λ x. opposite (size x)) e
strict_zero at_most w s e = absurd (true≢false (sym s))
strict_zero at_least w s e = absurd (true≢false (sym s))
strict_zero equals w s e = absurd (true≢false (sym s))

zero_of : (w : Number) → w.fraction ≡ zero_fraction → w ≡ numbers.zero
unfolding numbers fractions
zero_of w e = number_is w numbers.zero e

-- the weight of a strict literal is not 0 where what it comes to is not
strict_weight : (r : Relation) (w : Fraction) (h : IsReduced w) (k s : Number) → numbers.is_zero s ≡ false → numbers.times (signed_number r w h) k ≡ s → is_strict r ≡ true → is_strict_by r w ≡ false → ⊥
strict_weight r w h k s n p st e =
    let l = numbers_are_ordered_field in
    let none = zero_of (signed_number r w h) (strict_zero r w st (zero_is w h (by r st e))) in
    let nothing : s ≡ numbers.zero = sym p ∙ ap (λ a. numbers.times a k) none ∙ zero_product numbers l k in
    true≢false (sym (ap numbers.is_zero nothing ∙ l.zero_is_zero) ∙ n)
  where
    not_false : (b : Bool) → not b ≡ false → b ≡ true
    not_false true e = refl
    not_false false e = absurd (true≢false e)

    by : (r : Relation) → is_strict r ≡ true → is_strict_by r w ≡ false → is_zero w ≡ true
    by below s e = not_false (is_zero w) e
    by above s e = not_false (is_zero w) e
    by at_most s e = absurd (true≢false (sym s))
    by at_least s e = absurd (true≢false (sym s))
    by equals s e = absurd (true≢false (sym s))

-- signs

directed_not_zero : (up : Bool) (c : Number) → numbers.is_zero c ≡ false → numbers.is_zero (directed up c) ≡ false
directed_not_zero true c z = z
directed_not_zero false c z = opposite_not_zero numbers numbers_are_ordered_field c z

signed_twice : (side : Side) (s : Number) → signed_by side (signed_by side s) ≡ s
signed_twice Upper s = refl
signed_twice Lower s = opposite_twice numbers numbers_are_ordered_field s

-- the size of an entry's coefficient is at least 0
sized : (up : Bool) (c : Number) → numbers.is_negative (signed_by (stopping_side up c) (directed up c)) ≡ false
sized up c = by (is_positive numbers c) refl up
  where
    not_below : is_positive numbers c ≡ true → numbers.is_negative c ≡ false
    not_below e = ap numbers.is_negative (sym (opposite_twice numbers numbers_are_ordered_field c)) ∙ numbers_are_ordered_field.one_sign (numbers.opposite c) e

    by : (p : Bool) → is_positive numbers c ≡ p → (up : Bool) → numbers.is_negative (signed_by (side_by (cond p up (not up))) (directed up c)) ≡ false
    by true e true = not_below e
    by true e false = ap numbers.is_negative (opposite_twice numbers numbers_are_ordered_field c) ∙ not_below e
    by false e true = e
    by false e false = e

-- the piece of one entry

-- values without an infinitesimal part
abbrev pub flat : (ℕ → Number) → ℕ → Pair Number
flat v y = record { base = v y; tilt = numbers.zero }

-- A literal with its weight, and what it adds to the sum.
pub record Piece (t : TableView) (s : AtomSetting) (held : List Bound) (up : Bool) (e : Entry Number) (w : Weighted) : Type 0 where
  pub summand : Summand
  pub fits : IsSummand summand
  pub literal : summand.literal ≡ literal_at t w.literal
  pub weight : summand.weight ≡ fraction w.weight
  pub product : (n : Term → Number) (v : ℕ → Number) → AreOwned s.table s.owners n v → Solves (as_space numbers) v s.listed
      → product_at (λ u. (n u).fraction) summand ≡ (beyond held up (flat v) e).base.fraction
  pub tilts : is_strict_by summand.constraint.relation summand.weight ≡ false → (v : ℕ → Number) → (beyond held up (flat v) e).tilt ≡ numbers.zero

relation_there : (o : Option Relation) (up : Bool) (slack : Slack) (l : Lit) (b : Limit) → Contains (limits_where o up slack l) b → (r : Relation) × (o ≡ Some r)
relation_there None up slack l b h = absurd (none b h)
relation_there (Some r) up slack l b h = (r, refl)

-- the bound that stops an entry is one that its literal states, on the place that the reason names
module _ (laws : LimitLaws) (t : TableView) (s : AtomSetting) (f : Footing) (up : Bool) (e : Entry Number) (w : Weighted) (stated : AreStated f.slack_list f.held)
    (slack_list : (l : Lit) (slack : Slack) → slack_in f.slack_list l.term ≡ Some slack → HasSlackIn s slack (term_at t l.term)) (stopped : IsStopped f.held up e) (reason : IsBoundReason f up e w) where
  abbrev slack : Slack
  slack = reason.slack

  abbrev l : Lit
  l = reason.bound.literal

  -- what the variable is to be multiplied by
  abbrev by_variable : Number
  by_variable = directed up e.coefficient

  is_held : Contains f.held reason.bound × (reason.bound.side ≡ stopping_side up e.coefficient) × (reason.bound.variable ≡ e.variable)
  is_held = strongest_is_held (stopping_side up e.coefficient) e.variable f.held reason.bound reason.stops

  states : Contains (limits_by slack l) (limit_of reason.bound)
  states =
      let own = All-contains (IsStatedBound f.slack_list) f.held reason.bound stated is_held.0 in
      subst (λ q. Contains (limits_by q l) (limit_of reason.bound)) (same_Some own.slack slack (sym own.there ∙ reason.there)) own.states

  has_slack_in : HasSlackIn s slack (term_at t l.term)
  has_slack_in = slack_list l slack reason.there

  relation : (r : Relation) × (relation_by slack.kind l.positive ≡ Some r)
  relation = relation_there (relation_by slack.kind l.positive) (is_positive numbers (number_of slack.factor)) slack l (limit_of reason.bound) states

  weight_is : fraction w.weight ≡ weight_of relation.0 slack by_variable
  weight_is = reason.weight ∙ ap (λ o. weight_by o slack by_variable) relation.1

  signed : Number
  signed = signed_number relation.0 (fraction w.weight) (number_of w.weight).reduced

  comes : numbers.times signed (number_of slack.factor) ≡ by_variable
  unfolding signed relation
  comes =
      let m = signed_by (stopping_side up e.coefficient) by_variable in
      let side : signed_by reason.bound.side m ≡ by_variable = ap (λ d. signed_by d m) is_held.1 ∙ signed_twice (stopping_side up e.coefficient) by_variable in
      number_product signed (number_of slack.factor) by_variable
      (ap (λ x. times (signed_weight relation.0 x) (fraction slack.factor)) (weight_is ∙ ap (weight_of relation.0 slack) (sym side))
      ∙ weighs slack l relation.0 relation.1 has_slack_in.is.factor (limit_of reason.bound) states m (sized up e.coefficient) ∙ ap (λ (x : Number). x.fraction) side)

  abbrev summand : Summand
  summand = record {
    literal = literal_at t w.literal;
    constraint = with_relation relation.0 has_slack_in.constraint;
    form = has_slack_in.form;
    weight = fraction w.weight;
  }

  says : constraint_of (literal_at t w.literal) ≡ Some (with_relation relation.0 has_slack_in.constraint)
  says =
      ap (λ k. constraint_of (literal_at t k)) reason.literal
      ∙ reads (term_at t l.term) l.positive has_slack_in.constraint slack.kind relation.0 has_slack_in.says has_slack_in.kind relation.1

  value_is : value_of (stop_of f.held up e) ≡ pair_of reason.bound.value
  value_is = ap value_of reason.stops

  base_is : (value_of (stop_of f.held up e)).base ≡ number_of slack.bound
  base_is = ap (λ (p : Pair Number). p.base) value_is ∙ (laws.states slack l (limit_of reason.bound) states).2

  variable_is : slack.variable ≡ e.variable
  variable_is = sym (laws.states slack l (limit_of reason.bound) states).0 ∙ is_held.2

  product : (n : Term → Number) (v : ℕ → Number) → AreOwned s.table s.owners n v → Solves (as_space numbers) v s.listed
      → product_at (λ u. (n u).fraction) summand ≡ (beyond f.held up (flat v) e).base.fraction
  unfolding relation signed
  product n v o h =
      let k = number_of slack.factor in
      let c = number_of slack.constant in
      product_of signed (form_value (λ u. (n u).fraction) has_slack_in.form) (numbers.plus (numbers.times k (v slack.variable)) c) (form_comes s slack has_slack_in.form has_slack_in.is n v o h)
      ∙ ap (λ (x : Number). x.fraction)
      (scaled signed k c (number_of slack.bound) (v slack.variable) by_variable has_slack_in.is.factor has_slack_in.is.bound comes
      ∙ (λ i. numbers.times by_variable (numbers.plus (v (variable_is i)) (numbers.times minus_one (sym base_is i)))))

  tilts : is_strict_by relation.0 (fraction w.weight) ≡ false → (v : ℕ → Number) → (beyond f.held up (flat v) e).tilt ≡ numbers.zero
  unfolding signed
  tilts h v = by (is_strict relation.0) refl
    where
      by : (b : Bool) → is_strict relation.0 ≡ b → (beyond f.held up (flat v) e).tilt ≡ numbers.zero
      by true st = absurd (strict_weight relation.0 (fraction w.weight) (number_of w.weight).reduced (number_of slack.factor) by_variable (directed_not_zero up e.coefficient stopped.entry) comes st h)
      by false st = no_tilt by_variable _ (ap (λ (p : Pair Number). p.tilt) value_is ∙ laws.tilt slack l relation.0 relation.1 (limit_of reason.bound) states st)

  pub piece : Piece t s f.held up e w
  piece = record {
    summand = summand;
    fits = record { says = says; has = has_slack_in.has; reduced = (number_of w.weight).reduced };
    literal = refl;
    weight = refl;
    product = product;
    tilts = tilts;
  }
