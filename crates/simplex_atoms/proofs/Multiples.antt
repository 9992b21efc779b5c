-- Sums that are variables, or minus variables, and places on these.
use Rattle.std.proofs.Common.{◌≡◌, ℕ, ◌<◌, inl, inr, Bool, true, false, not, List, length, refl, sym, ◌∙◌, ap, subst}
use Rattle.std.specs.Bool.{beq}
use Rattle.std.specs.Prelude.{Contains}
use Rattle.std.proofs.lemmas.List.Elements.{All-contains}
use Rattle.spec_tableaux.specs.Numbers.{Number, numbers}
use Rattle.spec_tableaux.proofs.Numbers.{numbers_are_ordered_field}
use Rattle.spec_tableaux.proofs.Signs.{opposite_is, opposite_twice, opposite_not_zero}
use Rattle.tableau.specs.declared.entries.Entry.{Entry as CodeEntry}
use Rattle.tableau.specs.Numbers.{number_of}
use Rattle.tableau.specs.Entries.{entries_of}
use Rattle.simplex_atoms.specs.declared.keys.Key.{Key}
use Rattle.simplex_atoms.specs.declared.slack.Slack.{Slack}
use Rattle.simplex_atoms.specs.declared.sums.Multiple.{Multiple}
use Rattle.simplex_atoms.specs.Slacks.{IsSign}
use Rattle.simplex_atoms.specs.Sums.{sign_by, key_meant, IsKeyOf, Sum, sum_by}
use Rattle.simplex_atoms.specs.Atoms.{Ground, IsMultiple, IsSum, AreSums}
use Rattle.simplex_atoms.specs.Made.{Covers}
use Rattle.simplex_atoms.proofs.Turning.{sum_by_key}

-- signs

pub sign_not_zero : (b : Bool) → numbers.is_zero (sign_by b) ≡ false
sign_not_zero false = numbers_are_ordered_field.one_is_not_zero
sign_not_zero true = opposite_not_zero numbers numbers_are_ordered_field numbers.one numbers_are_ordered_field.one_is_not_zero

inverse_one : numbers.inverse numbers.one ≡ numbers.one
inverse_one =
    let l = numbers_are_ordered_field in
    sym (l.product_one (numbers.inverse numbers.one)) ∙ l.product_commutative numbers.one (numbers.inverse numbers.one) ∙ l.product_inverse numbers.one l.one_is_not_zero

-- a sign is 1 or -1
pub sign_is : (b : Bool) (k : Number) → k ≡ sign_by b → IsSign k
sign_is false k e = inl e
sign_is true k e = inr e

-- minus one is its own inverse
inverse_minus_one : numbers.inverse (numbers.opposite numbers.one) ≡ numbers.opposite numbers.one
inverse_minus_one =
    let l = numbers_are_ordered_field in
    let k = numbers.opposite numbers.one in
    sym (opposite_twice numbers l (numbers.inverse k)) ∙ ap numbers.opposite (opposite_is numbers l (numbers.inverse k) ∙ l.product_commutative k (numbers.inverse k) ∙ l.product_inverse k (sign_not_zero true))

pub bound_above : (x : Number) → numbers.opposite x ≡ numbers.times (numbers.opposite x) (numbers.inverse numbers.one)
bound_above x =
    let l = numbers_are_ordered_field in
    sym (ap (numbers.times (numbers.opposite x)) inverse_one ∙ l.product_commutative (numbers.opposite x) numbers.one ∙ l.product_one (numbers.opposite x))

pub bound_below : (x : Number) → x ≡ numbers.times (numbers.opposite x) (numbers.inverse (numbers.opposite numbers.one))
bound_below x =
    let l = numbers_are_ordered_field in
    let k = numbers.opposite numbers.one in
    sym (ap (numbers.times (numbers.opposite x)) inverse_minus_one ∙ l.product_commutative (numbers.opposite x) k ∙ sym (opposite_is numbers l (numbers.opposite x)) ∙ opposite_twice numbers l x)

-- two signs, one after the other
two_signs : (a b : Bool) → numbers.times (sign_by a) (sign_by b) ≡ sign_by (not (beq b a))
two_signs false b = numbers_are_ordered_field.product_one (sign_by b) ∙ ap sign_by (alone b)
  where
    alone : (b : Bool) → b ≡ not (beq b false)
    alone false = refl
    alone true = refl
two_signs true false = sym (opposite_is numbers numbers_are_ordered_field numbers.one)
two_signs true true = sym (opposite_is numbers numbers_are_ordered_field (numbers.opposite numbers.one)) ∙ opposite_twice numbers numbers_are_ordered_field numbers.one

-- a place on a variable that was there
pub known_covers : (g : Ground) (sums : List Sum) (es : List CodeEntry) (key : Key) (m : Multiple) (p : Slack) → AreSums g sums → IsKeyOf es key → Contains sums (sum_by (key_meant key) m)
    → p.variable ≡ m.variable → number_of p.factor ≡ sign_by (not (beq m.opposite key.opposite)) → Covers g es p
known_covers g sums es key m p all k there y f =
    let one : IsSum g (sum_by (key_meant key) m) = All-contains (IsSum g) sums (sum_by (key_meant key) m) all.each there in
    let sign : numbers.times (sign_by key.opposite) (sign_by m.opposite) ≡ number_of p.factor = two_signs key.opposite m.opposite ∙ sym f in
    record {
      variable = subst (λ (x : ℕ). x < length g.owners) (sym y) one.variable;
      sum = λ v h.
          sum_by_key v es key k ∙ ap (numbers.times (sign_by key.opposite)) (one.sum v h)
          ∙ sym (numbers_are_ordered_field.product_associative (sign_by key.opposite) (sign_by m.opposite) (v m.variable)) ∙ (λ i. numbers.times (sign i) (v (sym y i)));
    }

-- a place on a new one
pub new_covers : (g : Ground) (es : List CodeEntry) (y : ℕ) (p : Slack) → IsMultiple g (entries_of es) numbers.one y → p.variable ≡ y → number_of p.factor ≡ sign_by false → Covers g es p
new_covers g es y p m e f = record {
  variable = subst (λ (x : ℕ). x < length g.owners) (sym e) m.variable;
  sum = λ v h. m.sum v h ∙ (λ i. numbers.times (sym f i) (v (sym e i)));
}
