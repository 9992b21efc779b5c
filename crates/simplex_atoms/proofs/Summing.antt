-- The sum of entries in another order, and the opposite one.
use Rattle.std.proofs.Common.{◌≡◌, ℕ, zero, suc, ◌<◌, List, [], ◌∷◌, length, set, get_or, refl, sym, ◌∙◌, ap, arith, ⊎_elim}
use Rattle.std.specs.Prelude.{IsPermutation}
use Rattle.std.specs.List.{swap}
use Rattle.std.proofs.lemmas.Bool.{cases_eq}
use Rattle.std.proofs.lemmas.List.{length-set, get_or-set_same, get_or-set_other}
use Rattle.std.proofs.lemmas.List.Edits.{swap_is}
use Rattle.std.proofs.lemmas.List.Sorted.{IsPermutation-keeps}
use Rattle.spec_tableaux.specs.Fields.{Field, IsOrderedField}
use Rattle.spec_tableaux.specs.Spaces.{as_space}
use Rattle.spec_tableaux.specs.Rows.{Entry, sum_of}
use Rattle.spec_tableaux.proofs.Signs.{sum_zero_right, difference_self}

module _ {A : Type 0} (f : Field A) (l : IsOrderedField f) (v : ℕ → A) where
  abbrev total : List (Entry A) → A
  total es = sum_of (as_space f) v es

  abbrev term : Entry A → A
  term e = f.times e.coefficient (v e.variable)

  cancelled : (x y a : A) → f.plus x a ≡ f.plus y a → x ≡ y
  cancelled x y a h =
      sym (back x) ∙ ap (λ z. f.plus z (f.opposite a)) h ∙ back y
    where
      back : (z : A) → f.plus (f.plus z a) (f.opposite a) ≡ z
      back z = l.sum_associative z a (f.opposite a) ∙ ap (f.plus z) (difference_self f l a) ∙ sum_zero_right f l z

  -- another entry in the place of one
  total_set : (es : List (Entry A)) (i : ℕ) (y d : Entry A) → i < length es → f.plus (total (set es i y)) (term (get_or es i d)) ≡ f.plus (total es) (term y)
  total_set [] i y d lt = absurd (omega (arith, lt))
  total_set (e ∷ es) zero y d lt = three (term y) (total es) (term e)
    where
      three : (a b c : A) → f.plus (f.plus a b) c ≡ f.plus (f.plus c b) a
      three a b c = l.sum_commutative (f.plus a b) c ∙ ap (f.plus c) (l.sum_commutative a b) ∙ sym (l.sum_associative c b a)
  total_set (e ∷ es) (suc i) y d lt =
      l.sum_associative (term e) (total (set es i y)) (term (get_or es i d)) ∙ ap (f.plus (term e)) (total_set es i y d (omega (arith, lt))) ∙ sym (l.sum_associative (term e) (total es) (term y))

  -- two entries in each other's place
  total_swap : (es : List (Entry A)) (i j : ℕ) → i < length es → j < length es → total (swap es i j) ≡ total es
  total_swap [] i j p q = absurd (omega (arith, p))
  total_swap (d ∷ es) i j p q =
      let all : List (Entry A) = d ∷ es in
      let first : List (Entry A) = set all i (get_or all j d) in
      let there : get_or first j d ≡ get_or all j d =
      ⊎_elim (λ e. ap (λ n. get_or first n d) e ∙ get_or-set_same all i (get_or all j d) d p) (λ n. get_or-set_other all i j (get_or all j d) d n) (cases_eq j i) in
      let once = total_set all i (get_or all j d) d p in
      let twice = total_set first j (get_or all i d) d (omega (arith, q, length-set all i (get_or all j d))) in
      ap total (sym (swap_is all i j d p q))
      ∙ cancelled (total (set first j (get_or all i d))) (total all) (term (get_or all j d)) (ap (λ e. f.plus (total (set first j (get_or all i d))) (term e)) (sym there) ∙ twice ∙ once)

  -- the same entries in another order
  pub total_reordered : (es gs : List (Entry A)) → IsPermutation es gs → total gs ≡ total es
  total_reordered es gs p = IsPermutation-keeps es (λ xs. total xs ≡ total es) refl (λ xs i j a b h. total_swap xs i j a b ∙ h) gs p
