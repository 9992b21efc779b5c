-- The laws of the order of the code's fractions.
use Rattle.std.proofs.Common.{◌≡◌, true, ◌&&◌, ◌==◌, pos, ◌*ℤ◌, refl, sym, ◌∙◌, ap, Equal}
use Rattle.std.specs.Ordering.{on, as_partial_cmp, int_eq, eq_by_cmp}
use Rattle.std.specs.Cmp.{IsTotalOrder, IsPartialOrder, Agrees, both_ways, Equal-is, tied_itself}
use Rattle.std.specs.Cmp.{partial_order_from_agreeing_total}
use Rattle.std.proofs.lemmas.Cmp.{int_cmp_total}
use Rattle.std.proofs.lemmas.Bool.Decides.{Decides-int_eq, Decides-eqb, Decides-and}
use Rattle.spec_numbers.specs.Fractions.{Fraction, IsReduced, compare}
use Rattle.spec_numbers.proofs.Order.{compare-equal, compare-reversed, compare-trans}
use Rattle.ratio128.specs.declared.ratio.Ratio.{Ratio}
use Rattle.ratio128.specs.Meant.{fraction}

reduced : (a : Ratio) → IsReduced (fraction a)
reduced a = record { positive = a.parts.positive; coprime = a.parts.coprime }

-- the order is total
pub ratio_total : IsTotalOrder (on fraction compare)
ratio_total = record {
  antisymm = λ a b. compare-reversed (fraction a) (fraction b);
  trans = λ a b c. compare-trans (fraction a) (fraction b) (fraction c) a.parts.positive b.parts.positive
      c.parts.positive;
  congr = λ a b c e. ap (λ x. compare x (fraction c)) (compare-equal (fraction a) (fraction b) (reduced a)
      (reduced b) e);
}

-- both traits compare alike
pub ratio_agrees : Agrees (as_partial_cmp (on fraction compare)) (on fraction compare)
ratio_agrees = λ a b. refl

compare-itself : (x : Fraction) → compare x x ≡ Equal
unfolding compare
compare-itself x = tied_itself int_cmp_total (x.num *ℤ pos x.den)

-- fractions with the same parts are those that the order does not tell apart
pub ratio_ties : (a b : Ratio) → (int_eq a.num b.num && (a.den == b.den)) ≡ eq_by_cmp (on fraction compare) a b
ratio_ties a b = both_ways _ _ to from
  where
    same : (a b : Ratio) → a.num ≡ b.num → a.den ≡ b.den → fraction a ≡ fraction b
    same a b p q = λ i. record { num = p i; den = q i }

    to : (int_eq a.num b.num && (a.den == b.den)) ≡ true → eq_by_cmp (on fraction compare) a b ≡ true
    to e =
        let parts = (Decides-and _ _ (Decides-int_eq a.num b.num) (Decides-eqb a.den b.den)).0 e in
        (Equal-is _).1 (ap (compare (fraction a)) (sym (same a b parts.0 parts.1)) ∙ compare-itself (fraction a))

    from : eq_by_cmp (on fraction compare) a b ≡ true → (int_eq a.num b.num && (a.den == b.den)) ≡ true
    from e =
        let s = compare-equal (fraction a) (fraction b) (reduced a) (reduced b) ((Equal-is _).0 e) in
        (Decides-and _ _ (Decides-int_eq a.num b.num) (Decides-eqb a.den b.den)).1
        (ap (λ (x : Fraction). x.num) s, ap (λ (x : Fraction). x.den) s)

-- the order is a partial one up to `==`
pub ratio_partial : IsPartialOrder (λ a b. int_eq a.num b.num && (a.den == b.den))
    (as_partial_cmp (on fraction compare))
ratio_partial = partial_order_from_agreeing_total (on fraction compare) ratio_total ratio_agrees ratio_ties
