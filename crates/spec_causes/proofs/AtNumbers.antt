-- What pairs, sums and values of terms come to at a number in the place of the infinitesimal.
use Rattle.std.proofs.Common.{◌≡◌, ℕ, List, [], ◌∷◌, Some, refl, sym, ◌∙◌, ap}
use Rattle.spec_numbers.specs.Fractions.{Fraction, plus, times, IsReduced}
use Rattle.spec_sorts.specs.Terms.{Symbol, Term}
use Rattle.spec_arithmetic.specs.Forms.{variables_value, form_value}
use Rattle.spec_arithmetic.specs.Numbers.{number_at, IsLinearOver}
use Rattle.spec_arithmetic.proofs.FormValues.{AreProper}
use Rattle.spec_arithmetic.proofs.FormNumbers.{form_number}
use Rattle.spec_arithmetic.proofs.Linear.{linear_number}
use Rattle.spec_tableaux.specs.Spaces.{Pair, as_space, pairs}
use Rattle.spec_tableaux.specs.Rows.{Entry, sum_of}
use Rattle.spec_tableaux.specs.Numbers.{Number, numbers, fractions}
use Rattle.spec_tableaux.proofs.Numbers.{numbers_are_ordered_field as l}
use Rattle.spec_tableaux.proofs.Groups.{inner_two}
use Rattle.spec_tableaux.proofs.Signs.{zero_product}
use Rattle.spec_tableaux.specs.Points.{point_in}
use Rattle.spec_tableaux.specs.Halves.{at_number}
use Rattle.spec_causes.specs.TermTableau.{TermTableau, owner_in, AreOwned}
use Rattle.spec_causes.specs.Shared.{AreOwnedEntries, ends, owned, left_out, IsValueOf}

-- a pair without an infinitesimal part is its base
pub base_at : (e q : Number) → at_number e (record { base = q; tilt = numbers.zero }) ≡ q
base_at e q = ap (numbers.plus q) (zero_product numbers l e) ∙ l.sum_commutative q numbers.zero ∙ l.sum_zero q

pub plus_at : (e : Number) (x y : Pair Number) → at_number e ((pairs numbers).plus x y) ≡ numbers.plus (at_number e x) (at_number e y)
plus_at e x y =
    ap (numbers.plus (numbers.plus x.base y.base)) (l.product_commutative (numbers.plus x.tilt y.tilt) e ∙ l.distributive e x.tilt y.tilt ∙ (λ i. numbers.plus (l.product_commutative e x.tilt i) (l.product_commutative e y.tilt i)))
    ∙ inner_two numbers.plus l.sum_associative l.sum_commutative x.base y.base (numbers.times x.tilt e) (numbers.times y.tilt e)

scale_at : (e k : Number) (x : Pair Number) → at_number e ((pairs numbers).scale k x) ≡ numbers.times k (at_number e x)
scale_at e k x = ap (numbers.plus (numbers.times k x.base)) (l.product_associative k x.tilt e) ∙ sym (l.distributive k x.base (numbers.times x.tilt e))

pub sum_at : (e : Number) (v : ℕ → Pair Number) (es : List (Entry Number)) → at_number e (sum_of (pairs numbers) v es) ≡ sum_of (as_space numbers) (λ y. at_number e (v y)) es
sum_at e v [] = base_at e numbers.zero
sum_at e v (x ∷ xs) =
    plus_at e ((pairs numbers).scale x.coefficient (v x.variable)) (sum_of (pairs numbers) v xs)
    ∙ (λ i. numbers.plus (scale_at e x.coefficient (v x.variable) i) (sum_at e v xs i))

-- a multiple of 0 adds nothing
adds_nothing : (k : Fraction) → IsReduced k → (x y : Number) → x ≡ numbers.zero → plus (times k x.fraction) y.fraction ≡ y.fraction
unfolding numbers fractions
adds_nothing k reduced x y none =
    let c : Number = record { fraction = k; reduced = reduced } in
    ap (λ (z : Number). z.fraction)
    (ap (λ z. numbers.plus (numbers.times c z) y) none ∙ ap (λ z. numbers.plus z y) (l.product_commutative c numbers.zero ∙ zero_product numbers l c) ∙ l.sum_zero y)

-- terms have these numbers where the infinitesimal is e: those of the variables that stand for them, and 0 where none does
module _ (e : Number) (s : TermTableau) (n : Term → Number) (owned_values : AreOwned s.owners n (λ y. at_number e (point_in s.values y)))
    (others : (u : Term) → ((y : ℕ) → owner_in s.owners y ≡ Some u → ⊥) → n u ≡ numbers.zero) where
  abbrev numbered : Term → Fraction
  numbered u = (n u).fraction

  variables_at : (m : Term → Fraction) (gs : List (Entry Number)) (xs : List (Term × Fraction)) → AreOwnedEntries s.owners gs xs → AreProper m xs
      → variables_value numbered xs ≡ (sum_of (as_space numbers) (λ y. at_number e (point_in s.values y)) gs).fraction
  unfolding numbers fractions variables_value
  variables_at m _ _ ends proper = refl
  variables_at m _ _ (owned g x gs xs is more) proper =
      λ i. plus (times (sym is.coefficient i) (sym (owned_values g.variable x.0 is.owner) i).fraction) (variables_at m gs xs more proper.1 i)
  variables_at m _ _ (left_out x gs xs none more) proper =
      ap (plus (times x.1 (n x.0).fraction)) (variables_at m gs xs more proper.1)
      ∙ adds_nothing x.1 proper.0.coefficient (n x.0) (sum_of (as_space numbers) (λ y. at_number e (point_in s.values y)) gs) (others x.0 none)

  -- so a term has the number of its value
  pub value_at_number : (symbols : List Symbol) (u : Term) (p : Pair Number) → IsLinearOver symbols u → IsValueOf s u p → number_at numbered u ≡ (at_number e p).fraction
  unfolding numbers fractions form_value
  value_at_number symbols u p linear v =
      let proper = (form_number symbols numbered (λ w. (n w).reduced) u v.form_of v.has (record { term = linear.term; sort = linear.sort })).proper in
      let total : Number = sum_of (as_space numbers) (λ y. at_number e (point_in s.values y)) v.sum_is.entries in
      let sum : at_number e v.sum ≡ total = ap (at_number e) v.sum_is.is ∙ sum_at e (point_in s.values) v.sum_is.entries in
      linear_number symbols numbered (λ w. (n w).reduced) u v.form_of v.has linear
      ∙ (λ i. plus (sym v.constant_is i) (variables_at (number_at numbered) v.sum_is.entries v.form_of.variables v.sum_is.are proper.variables i))
      ∙ ap (λ (z : Number). z.fraction) (l.sum_commutative v.constant total ∙ (λ i. numbers.plus (sym sum i) (sym (base_at e v.constant) i)))
      ∙ ap (λ (z : Number). z.fraction) (sym (plus_at e v.sum (record { base = v.constant; tilt = numbers.zero })) ∙ ap (at_number e) (sym v.is))
