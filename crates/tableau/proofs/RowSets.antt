-- Sets of row numbers.
use Rattle.std.proofs.Common.{◌≡◌, ℕ, ◌<◌, Bool, true, false, nat_eq, nat_lt, if◌then◌else◌, List, [], ◌∷◌, ◌++◌, length, Contains, slice_index_or, inl, inr, refl, sym, ap, ◌∙◌, subst, arith}
use Rattle.std.specs.Prelude.{◌↔◌, ◌⊎◌}
use Rattle.std.specs.List.{list_any, IsDistinct}
use Rattle.std.proofs.lemmas.Map.Keys.{apart_from_distinct}
use Rattle.std.proofs.lemmas.Bool.Decides.{nat_tests}
use Rattle.std.proofs.lemmas.List.Elements.{Contains-append_left, Contains-push, Contains-push_cases}
use Rattle.std.proofs.lemmas.Bool.{eqb-true}
use Rattle.indexmap.specs.IndexSet.{insert_key}
use Rattle.spec_tableaux.specs.Rows.{Row}
use Rattle.spec_tableaux.specs.Numbers.{Number}
use Rattle.tableau.specs.Views.{IsColumn}
use Rattle.tableau.specs.Kept.{AreColumns, column_at}
use Rattle.indexmap.proofs.CallerLemmas.{Contains-list_any}

-- a number that comes into the set, or was in it
pub inserted : (old new : List ℕ) (n : ℕ) → new ≡ insert_key nat_eq old n → (k : ℕ) → Contains new k ↔ (Contains old k ⊎ (k ≡ n))
inserted old new n e = go (list_any (nat_eq n) old) refl
  where
    go : (b : Bool) → list_any (nat_eq n) old ≡ b → (k : ℕ) → Contains new k ↔ (Contains old k ⊎ (k ≡ n))
    go true t k = subst (λ ks. Contains ks k ↔ (Contains old k ⊎ (k ≡ n))) (sym (e ∙ ap (λ c. if c then old else old ++ n ∷ []) t))
        (λ i. inl i, λ i. elim i [ inl o ↦ o | inr is ↦ subst (Contains old) (sym is) (Contains-list_any nat_eq eqb-true old n t) ])
    go false t k = subst (λ ks. Contains ks k ↔ (Contains old k ⊎ (k ≡ n))) (sym (e ∙ ap (λ c. if c then old else old ++ n ∷ []) t)) (
      λ i. elim (Contains-push_cases old n k i) [ inl o ↦ inl o | inr is ↦ inr (sym is) ],
      λ i. elim i [ inl o ↦ Contains-append_left old (n ∷ []) k o | inr is ↦ subst (Contains (old ++ n ∷ [])) (sym is) (Contains-push old n) ],
    )

lt_of : (i j : ℕ) → nat_lt i j ≡ true → i < j
lt_of i j e = grind (arith, nat_tests)

not_lt : (i j : ℕ) → nat_lt i j ≡ false → nat_lt j i ≡ false → i ≡ j
not_lt i j e f = grind (arith, nat_tests)

tested : (a b : ℕ) → a ≡ b → nat_eq a b ≡ false → ⊥
tested a b e f = grind (arith, nat_tests)

-- no number of a set is at two places
pub once : (ks : List ℕ) → IsDistinct nat_eq ks → (i j : ℕ) → i < length ks → j < length ks → slice_index_or ks i 0 ≡ slice_index_or ks j 0 → i ≡ j
once ks d i j a b e = go (nat_lt i j) (nat_lt j i) refl refl
  where
    go : (p q : Bool) → nat_lt i j ≡ p → nat_lt j i ≡ q → i ≡ j
    go true q f g = absurd (tested _ _ e (apart_from_distinct nat_eq ks i j 0 d (lt_of i j f) b))
    go false true f g = absurd (tested _ _ (sym e) (apart_from_distinct nat_eq ks j i 0 d (lt_of j i g) a))
    go false false f g = not_lt i j f g

-- a column that is lent
pub column_made : (rs : List (Row Number)) (columns : List (List ℕ)) (y : ℕ) (lent ks : List ℕ) → AreColumns rs columns → lent ≡ ks → ks ≡ column_at columns y
    → ((i j : ℕ) → i < length ks → j < length ks → slice_index_or ks i 0 ≡ slice_index_or ks j 0 → i ≡ j) → IsColumn rs y lent
column_made rs columns y lent ks a e g o = subst (IsColumn rs y) (sym e) (record {
  covers = λ k l h. subst (λ ns. Contains ns k) (sym g) (a.covers y k l h);
  within = λ k h. a.within y k (subst (λ ns. Contains ns k) g h);
  once = o;
})
