-- The orders of shared terms, by their values and by their classes, and what neighbours in these orders tell of all.
use Rattle.std.proofs.Common.{◌≡◌, ◌≢◌, ℕ, ◌+◌, ◌<◌, ◌==◌, ◌⊎◌, inl, inr, Bool, true, false, not, List, length, get_or, refl, sym, ap, ◌∙◌, arith, Less, Equal, Greater, true≢false}
use Rattle.std.specs.Prelude.{Contains, MatchBool}
use Rattle.std.specs.Ordering.{on, is_lt, is_gt, nat_cmp, ordering_reverse}
use Rattle.std.specs.declared.cmp.Ordering.{Ordering}
use Rattle.std.specs.Cmp.{IsTotalOrder}
use Rattle.std.specs.List.Sorted.{IsSortedBy, IsPermutation}
use Rattle.std.proofs.lemmas.Cmp.{tied_itself, nat_cmp_total}
use Rattle.std.proofs.lemmas.List.MinMax.{ranks_by}
use Rattle.std.proofs.lemmas.List.Sorted.{Contains-permutation, IsPermutation-sym}
use Rattle.std.specs.Bool.{Decides}
use Rattle.std.proofs.lemmas.Bool.Decides.{Decides-eqb}
use Rattle.spec_numbers.specs.Fractions.{IsReduced}
use Rattle.spec_tableaux.specs.Deltas.{AreReduced, delta_compare}
use Rattle.delta_num.specs.declared.delta.Delta.{Delta}
use Rattle.delta_num.specs.Meant.{delta}
use Rattle.delta_num.proofs.Orders.{order_equal, order_reversed, order_transitive}
use Rattle.ratio128.specs.declared.ratio.Ratio.{Ratio}
use Rattle.ratio128.specs.Meant.{fraction}
use Rattle.agreement.specs.declared.agreeing.Shared.{Shared}
use Rattle.agreement.specs.Agreeing.{Concur, Clash, NeighboursConcur, Agree, IsDifferingPair}
use Rattle.term_core.specs.declared.ids.TermId.{TermId}
use Rattle.agreement.proofs.Sorted.{all_alike}

-- the numbers of the code are in lowest terms
reduced : (d : Delta) → AreReduced (delta d)
reduced d = record { base_reduced = of d.base; tilt_reduced = of d.tilt }
  where
    of : (a : Ratio) → IsReduced (fraction a)
    of a = record { positive = a.parts.positive; coprime = a.parts.coprime }

-- one is neither above nor below the other
tied : {K : Type 0} {R : K → K → Ordering} → IsTotalOrder R → (x y : K) → is_lt (R x y) ≡ false → is_lt (R y x) ≡ false → R x y ≡ Equal
tied {R = R} o x y h k = by (R x y) refl
  where
    by : (r : Ordering) → R x y ≡ r → r ≡ Equal
    by Less e = absurd (true≢false (sym (ap is_lt e) ∙ h))
    by Equal e = refl
    by Greater e = absurd (true≢false (sym (ap is_lt (o.antisymm y x ∙ ap ordering_reverse e)) ∙ k))

-- values are in a total order
pub values_total : IsTotalOrder (on delta delta_compare)
values_total = record {
  antisymm = λ a b. order_reversed (delta a) (delta b);
  trans = λ a b c. order_transitive (delta a) (delta b) (delta c) (reduced a) (reduced b) (reduced c);
  congr = λ a b c e. ap (λ x. delta_compare x (delta c)) (order_equal (delta a) (delta b) (reduced a) (reduced b) e);
}

-- one value is what the order does not tell apart
same_value : (a b : Delta) → delta_compare (delta a) (delta b) ≡ Equal → delta a ≡ delta b
same_value a b = order_equal (delta a) (delta b) (reduced a) (reduced b)

tied_values : (a b : Delta) → delta a ≡ delta b → delta_compare (delta a) (delta b) ≡ Equal
tied_values a b e = ap (λ x. delta_compare x (delta b)) e ∙ tied_itself values_total b

-- the order by values
abbrev pub by_value : Shared → Shared → Bool
by_value x y = is_lt (delta_compare (delta x.value) (delta y.value))

-- the order by classes
abbrev pub by_class : Shared → Shared → Bool
by_class x y = is_lt (nat_cmp x.class y.class)

module _ (xs : List Shared) (near : NeighboursConcur xs) where
  -- in order by values, terms of one value are of one class
  values_tell : IsSortedBy by_value xs → (x y : Shared) → Contains xs x → Contains xs y → delta x.value ≡ delta y.value → x.class ≡ y.class
  values_tell up x y x_in y_in e =
      all_alike by_value (ranks_by values_total (λ (s : Shared). s.value)) (λ (s : Shared). s.class) xs up interface x y x_in y_in
      (ap is_lt (tied_values x.value y.value e)) (ap is_lt (tied_values y.value x.value (sym e)))
    where
      interface : (k : ℕ) (d : Shared) → k + 1 < length xs → by_value (get_or xs k d) (get_or xs (k + 1) d) ≡ false
          → by_value (get_or xs (k + 1) d) (get_or xs k d) ≡ false → (get_or xs k d).class ≡ (get_or xs (k + 1) d).class
      interface k d l h back =
          (near k d l).1 (same_value (get_or xs k d).value (get_or xs (k + 1) d).value (tied values_total (get_or xs k d).value (get_or xs (k + 1) d).value h back))

  -- in order by classes, terms of one class have one value
  classes_tell : IsSortedBy by_class xs → (x y : Shared) → Contains xs x → Contains xs y → x.class ≡ y.class → delta x.value ≡ delta y.value
  classes_tell up x y x_in y_in e =
      all_alike by_class (ranks_by nat_cmp_total (λ (s : Shared). s.class)) (λ (s : Shared). delta s.value) xs up interface x y x_in y_in
      (ap is_lt (same_class x.class y.class e)) (ap is_lt (same_class y.class x.class (sym e)))
    where
      same_class : (a b : ℕ) → a ≡ b → nat_cmp a b ≡ Equal
      same_class a b e = ap (λ k. nat_cmp k b) e ∙ tied_itself nat_cmp_total b

      interface : (k : ℕ) (d : Shared) → k + 1 < length xs → by_class (get_or xs k d) (get_or xs (k + 1) d) ≡ false
          → by_class (get_or xs (k + 1) d) (get_or xs k d) ≡ false → delta (get_or xs k d).value ≡ delta (get_or xs (k + 1) d).value
      interface k d l h back = (near k d l).0 (tied_class (get_or xs k d).class (get_or xs (k + 1) d).class h back)
        where
          tied_class : (a b : ℕ) → is_lt (nat_cmp a b) ≡ false → is_lt (nat_cmp b a) ≡ false → a ≡ b
          tied_class a b h k = grind (arith)

-- of two terms that have one value, the classes decide
pub of_one_value : (x y : Shared) → delta_compare (delta x.value) (delta y.value) ≡ Equal → MatchBool (x.class == y.class) (Concur x y) (Clash x y)
of_one_value x y e = by (x.class == y.class) (Decides-eqb x.class y.class)
  where
    by : (b : Bool) → Decides b (x.class ≡ y.class) → MatchBool b (Concur x y) (Clash x y)
    by true h = (λ c. same_value x.value y.value e, λ v. h.0 refl)
    by false h = inr (λ c. true≢false (sym (h.1 c)), same_value x.value y.value e)

-- so they do of two that have not
pub of_two_values : (x y : Shared) → delta_compare (delta x.value) (delta y.value) ≢ Equal
    → MatchBool (not (x.class == y.class)) (Concur x y) (Clash x y)
of_two_values x y e = by (x.class == y.class) (Decides-eqb x.class y.class)
  where
    by : (b : Bool) → Decides b (x.class ≡ y.class) → MatchBool (not b) (Concur x y) (Clash x y)
    by true h = inl (h.0 refl, λ v. e (tied_values x.value y.value v))
    by false h = (λ c. absurd (true≢false (sym (h.1 c))), λ v. absurd (e (tied_values x.value y.value v)))

-- what is less or greater is not equal
pub not_equal : (r : Ordering) → (r ≡ Less) ⊎ (r ≡ Greater) → r ≢ Equal
not_equal r (inl h) e = true≢false (ap is_lt (sym h ∙ e))
not_equal r (inr h) e = true≢false (ap is_gt (sym h ∙ e))

-- a pair of a list in another order is one of the list
pub pair_back : (xs ys : List Shared) (s t : TermId) → IsPermutation xs ys → IsDifferingPair ys s t → IsDifferingPair xs s t
pair_back xs ys s t p h = record {
  one = h.one;
  one_in = Contains-permutation ys xs h.one (IsPermutation-sym xs ys p) h.one_in;
  one_is = h.one_is;
  other = h.other;
  other_in = Contains-permutation ys xs h.other (IsPermutation-sym xs ys p) h.other_in;
  other_is = h.other_is;
  clash = h.clash;
}

-- where neighbours are alike in both orders, the theories agree on all
pub agree_in : (xs ys zs : List Shared) → IsPermutation xs ys → IsPermutation ys zs → IsSortedBy by_value ys → IsSortedBy by_class zs
    → NeighboursConcur ys → NeighboursConcur zs → Agree xs
agree_in xs ys zs p q up rise near interface x y x_in y_in =
    let x_there = Contains-permutation xs ys x p x_in in
    let y_there = Contains-permutation xs ys y p y_in in (
      classes_tell zs interface rise x y (Contains-permutation ys zs x q x_there) (Contains-permutation ys zs y q y_there),
      values_tell ys near up x y x_there y_there,
    )
