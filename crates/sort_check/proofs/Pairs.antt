-- The pairs of different terms, and the terms that tell them apart.
use Rattle.std.proofs.Common.{◌≡◌, ℕ, ◌+◌, ◌*◌, ◌-◌, ◌<◌, ◌≤◌, inl, inr, Bool, true, false, cond, List, [], ◌∷◌, ◌++◌, length, map, Contains, nat_le, refl, sym, ap, ◌∙◌, subst, true≢false, arith}
use Rattle.std.specs.Prelude.{⊤}
use Rattle.std.specs.List.{AllByRecursion, IsDistinct}
use Rattle.std.specs.Set.{is_member, unique_keys}
use Rattle.std.proofs.lemmas.List.{length-map, length-append}
use Rattle.std.proofs.lemmas.List.Elements.{Contains-append_left, Contains-append_right, Contains-append_cases}
use Rattle.std.proofs.lemmas.Map.Made.{is_member-Decides, AllPairs-from_IsDistinct}
use Rattle.std.proofs.lemmas.Bool.Decides.{nat_tests}
use Rattle.spec_text.proofs.Members.{first, later, cases, none, to_image, from_image}
use Rattle.spec_sorts.specs.Lists.{all_pairs}
use Rattle.spec_sorts.specs.Terms.{Term, app, Equal, And, of, pair, same_term, no_term}
use Rattle.spec_sorts.specs.Theory.{conjunction, unequal, each_pair}
use Rattle.spec_sorts.specs.Subterms.{subterms_of}
use Rattle.spec_sorts.specs.Subsets.{arguments_of, AreAmong, AreOnce}
use Rattle.spec_sorts.proofs.General.{list_of-terms_of}
use Rattle.spec_sorts.proofs.SameTerms.{terms_decide}
use Rattle.spec_sorts.proofs.LeastSubterms.{AreLeast, least_of, no_fewer}
use Rattle.sort_check.specs.TooMany.{different, AreTooMany}

module _ {A : Type 0} where
  -- no item occurs twice
  abbrev Once : List A → Type 0
  Once [] = ⊤
  Once (x ∷ xs) = (Contains xs x → ⊥) × Once xs

  once_both : (xs ys : List A) → Once xs → Once ys → ((x : A) → Contains xs x → Contains ys x → ⊥) → Once (xs ++ ys)
  once_both [] ys a b apart = b
  once_both (x ∷ xs) ys a b apart = (
    λ c. elim (Contains-append_cases xs ys x c) [ inl l ↦ a.0 l | inr r ↦ apart x (first x xs) r ],
    once_both xs ys a.1 b (λ y l r. apart y (later x xs y l) r),
  )

once_image : {A B : Type 0} (f : A → B) → ((a b : A) → f a ≡ f b → a ≡ b) → (xs : List A) → Once xs → Once (map f xs)
once_image f one [] a = tt
once_image f one (x ∷ xs) a = (
  λ c. let r = from_image f xs (f x) c in a.0 (subst (Contains xs) (one r.0 x r.2) r.1),
  once_image f one xs a.1,
)

-- a list of terms, each once
once_terms : (ts : List Term) → Once ts → AreOnce ts
unfolding IsDistinct
once_terms ts a = AllPairs-from_IsDistinct terms_decide ts (distinct ts a)
  where
    other : (t u : Term) → (u ≡ t → ⊥) → (b : Bool) → same_term t u ≡ b → same_term t u ≡ false
    other t u ne true e = absurd (ne (sym ((terms_decide t u).0 e)))
    other t u ne false e = e

    absent : (t : Term) (us : List Term) → (Contains us t → ⊥) → AllByRecursion (λ u. same_term t u ≡ false) us
    absent t [] ne = tt
    absent t (u ∷ us) ne = (other t u (λ e. ne (subst (Contains (u ∷ us)) e (first u us))) (same_term t u) refl, absent t us (λ c. ne (later u us t c)))

    distinct : (us : List Term) → Once us → IsDistinct same_term us
    distinct [] b = tt
    distinct (u ∷ us) b = (absent u us b.0, distinct us b.1)

-- each of the different terms is one of all
unique_among : (ts : List Term) (u : Term) → Contains (unique_keys same_term ts) u → Contains ts u
unique_among [] u c = c
unique_among (t ∷ ts) u c = go (is_member same_term ts t) (unique_among ts u) c
  where
    go : (b : Bool) → (Contains (unique_keys same_term ts) u → Contains ts u) → Contains (cond b (unique_keys same_term ts) (t ∷ unique_keys same_term ts)) u → Contains (t ∷ ts) u
    go true old k = later t ts u (old k)
    go false old k = elim (cases t (unique_keys same_term ts) u k) [ inl e ↦ subst (Contains (t ∷ ts)) e (first t ts) | inr r ↦ later t ts u (old r) ]

-- a term that is not found is none of these
not_there : (ts : List Term) (t : Term) → is_member same_term ts t ≡ false → Contains ts t → ⊥
not_there ts t e c = true≢false (sym ((is_member-Decides terms_decide ts t).1 c) ∙ e)

unique_once : (ts : List Term) → Once (unique_keys same_term ts)
unique_once [] = tt
unique_once (t ∷ ts) = go (is_member same_term ts t) refl (unique_once ts)
  where
    go : (b : Bool) → is_member same_term ts t ≡ b → Once (unique_keys same_term ts) → Once (cond b (unique_keys same_term ts) (t ∷ unique_keys same_term ts))
    go true e old = old
    go false e old = (λ c. not_there ts t e (unique_among ts t c), old)

-- a term before another
abbrev with_first : Term → Term → Term × Term
with_first t u = (t, u)

-- each of the different terms with those after it
abbrev pairs_of : List Term → List (Term × Term)
pairs_of [] = []
pairs_of (t ∷ ts) = cond (is_member same_term ts t) (pairs_of ts) (map (with_first t) (unique_keys same_term ts) ++ pairs_of ts)

pairs_long : (ts : List Term) → length (pairs_of ts) + length (pairs_of ts) + different ts ≡ different ts * different ts
pairs_long [] = refl
pairs_long (t ∷ ts) = go (is_member same_term ts t) (pairs_long ts)
  where
    ds : List Term
    ds = unique_keys same_term ts

    sum : (d p : ℕ) → p + p + d ≡ d * d → (d + p) + (d + p) + (d + 1) ≡ (d + 1) * (d + 1)
    sum d p h = omega (arith, h)

    go : (b : Bool) → length (pairs_of ts) + length (pairs_of ts) + length ds ≡ length ds * length ds
        → length (cond b (pairs_of ts) (map (with_first t) ds ++ pairs_of ts)) + length (cond b (pairs_of ts) (map (with_first t) ds ++ pairs_of ts)) + length (cond b ds (t ∷ ds))
        ≡ length (cond b ds (t ∷ ds)) * length (cond b ds (t ∷ ds))
    go true h = h
    go false h =
        let long : length (map (with_first t) ds ++ pairs_of ts) ≡ length ds + length (pairs_of ts) = length-append (map (with_first t) ds) (pairs_of ts) ∙ ap (λ n. n + length (pairs_of ts)) (length-map ds (with_first t)) in
        let next : length (t ∷ ds) ≡ length ds + 1 = omega arith in
        (λ i. long i + long i + next i) ∙ sum (length ds) (length (pairs_of ts)) h ∙ ap (λ n. n * n) (sym next)

-- they are among all pairs
pairs_among : (ts : List Term) (p : Term × Term) → Contains (pairs_of ts) p → Contains (all_pairs ts) p
pairs_among [] p c = absurd (none p c)
pairs_among (t ∷ ts) p c = go (is_member same_term ts t) (λ k. Contains-append_right (map (with_first t) ts) (all_pairs ts) p (pairs_among ts p k)) c
  where
    go : (b : Bool) → (Contains (pairs_of ts) p → Contains (all_pairs (t ∷ ts)) p) → Contains (cond b (pairs_of ts) (map (with_first t) (unique_keys same_term ts) ++ pairs_of ts)) p → Contains (all_pairs (t ∷ ts)) p
    go true old k = old k
    go false old k = elim (Contains-append_cases (map (with_first t) (unique_keys same_term ts)) (pairs_of ts) p k) [
      | inl l ↦
          let r = from_image (with_first t) (unique_keys same_term ts) p l in
          subst (Contains (all_pairs (t ∷ ts))) r.2 (Contains-append_left (map (with_first t) ts) (all_pairs ts) (t, r.0) (to_image (with_first t) ts r.0 (unique_among ts r.0 r.1)))
      | inr r ↦ old r
    ]

-- the first of a pair is one of the terms
pair_first : (ts : List Term) (p : Term × Term) → Contains (pairs_of ts) p → Contains ts p.0
pair_first [] p c = absurd (none p c)
pair_first (t ∷ ts) p c = go (is_member same_term ts t) (λ k. later t ts p.0 (pair_first ts p k)) c
  where
    go : (b : Bool) → (Contains (pairs_of ts) p → Contains (t ∷ ts) p.0) → Contains (cond b (pairs_of ts) (map (with_first t) (unique_keys same_term ts) ++ pairs_of ts)) p → Contains (t ∷ ts) p.0
    go true old k = old k
    go false old k = elim (Contains-append_cases (map (with_first t) (unique_keys same_term ts)) (pairs_of ts) p k) [
      | inl l ↦ let r = from_image (with_first t) (unique_keys same_term ts) p l in subst (Contains (t ∷ ts)) (ap (λ (q : Term × Term). q.0) r.2) (first t ts)
      | inr r ↦ old r
    ]

pairs_once : (ts : List Term) → Once (pairs_of ts)
pairs_once [] = tt
pairs_once (t ∷ ts) = go (is_member same_term ts t) refl (pairs_once ts)
  where
    go : (b : Bool) → is_member same_term ts t ≡ b → Once (pairs_of ts) → Once (cond b (pairs_of ts) (map (with_first t) (unique_keys same_term ts) ++ pairs_of ts))
    go true e old = old
    go false e old =
        once_both (map (with_first t) (unique_keys same_term ts)) (pairs_of ts) (once_image (with_first t) (λ a b is. ap (λ (q : Term × Term). q.1) is) (unique_keys same_term ts) (unique_once ts)) old
        (λ p l r. let k = from_image (with_first t) (unique_keys same_term ts) p l in not_there ts t e (subst (Contains ts) (sym (ap (λ (q : Term × Term). q.0) k.2)) (pair_first ts p r)))

-- the equality of a pair, and its negation
abbrev equal_pair : Term × Term → Term
equal_pair p = pair Equal p.0 p.1

abbrev unequal_pair : Term × Term → Term
unequal_pair p = unequal p.0 p.1

-- the first and the second of terms
abbrev one_of : List Term → Term
one_of (t ∷ ts) = t
one_of [] = no_term

abbrev two_of : List Term → Term
two_of (t ∷ ts) = one_of ts
two_of [] = no_term

one_equality : (p q : Term × Term) → equal_pair p ≡ equal_pair q → p ≡ q
one_equality p q e = λ i. (ap (λ (t : Term). one_of (arguments_of t)) e i, ap (λ (t : Term). two_of (arguments_of t)) e i)

one_negation : (p q : Term × Term) → unequal_pair p ≡ unequal_pair q → p ≡ q
one_negation p q e = one_equality p q (ap (λ (t : Term). one_of (arguments_of t)) e)

abbrev is_equality : Term → Bool
is_equality (app Equal ts) = true
is_equality (app h ts) = false

-- the equalities and negations of pairs
abbrev told_apart : List (Term × Term) → List Term
told_apart ps = map equal_pair ps ++ map unequal_pair ps

told_once : (ps : List (Term × Term)) → Once ps → Once (told_apart ps)
told_once ps a =
    once_both (map equal_pair ps) (map unequal_pair ps) (once_image equal_pair one_equality ps a) (once_image unequal_pair one_negation ps a)
    (λ t l r.
    let x = from_image equal_pair ps t l in
    let y = from_image unequal_pair ps t r in
    true≢false (ap is_equality (x.2 ∙ sym y.2)))

-- a conjunction has its parts
part_there : (ts : List Term) (t : Term) → Contains ts t → Contains (subterms_of (conjunction ts ∷ [])) t
part_there [] t c = absurd (none t c)
part_there (u ∷ []) t c = (least_of (u ∷ [])).there t c
part_there (u ∷ v ∷ ts) t c =
    let r = least_of (of And (u ∷ v ∷ ts) ∷ []) in
    r.closed (of And (u ∷ v ∷ ts)) (r.there (of And (u ∷ v ∷ ts)) (first (of And (u ∷ v ∷ ts)) [])) t (subst (λ l. Contains l t) (sym (list_of-terms_of (u ∷ v ∷ ts))) c)

told_there : (ts : List Term) → AreAmong (told_apart (pairs_of ts)) (subterms_of (each_pair unequal (all_pairs ts) ∷ []))
told_there ts t c = elim (Contains-append_cases (map equal_pair (pairs_of ts)) (map unequal_pair (pairs_of ts)) t c) [
  | inl l ↦
      let x = from_image equal_pair (pairs_of ts) t l in
      subst (Contains all) x.2 (r.closed (unequal_pair x.0) (negated_there x.0 x.1) (equal_pair x.0) (first (equal_pair x.0) []))
  | inr l ↦ let x = from_image unequal_pair (pairs_of ts) t l in subst (Contains all) x.2 (negated_there x.0 x.1)
]
  where
    whole : Term
    whole = each_pair unequal (all_pairs ts)

    all : List Term
    all = subterms_of (whole ∷ [])

    r : AreLeast (whole ∷ []) all
    r = least_of (whole ∷ [])

    negated_there : (p : Term × Term) → Contains (pairs_of ts) p → Contains all (unequal_pair p)
    negated_there p k = part_there (map (λ (q : Term × Term). unequal q.0 q.1) (all_pairs ts)) (unequal p.0 p.1) (to_image (λ (q : Term × Term). unequal q.0 q.1) (all_pairs ts) p (pairs_among ts p k))

-- the pairs of too many different terms have more subterms than the limit allows
pub too_many_subterms : (limit : ℕ) (ts : List Term) → AreTooMany limit ts → nat_le (length (subterms_of (each_pair unequal (all_pairs ts) ∷ []))) limit ≡ false
too_many_subterms limit ts many =
    above (length (subterms_of (each_pair unequal (all_pairs ts) ∷ [])))
    (over (length (pairs_of ts)) (length (told_apart (pairs_of ts))) (length (subterms_of (each_pair unequal (all_pairs ts) ∷ []))) (different ts) (pairs_long ts) long fewer many)
  where
    fewer : length (told_apart (pairs_of ts)) ≤ length (subterms_of (each_pair unequal (all_pairs ts) ∷ []))
    fewer = no_fewer (each_pair unequal (all_pairs ts) ∷ []) (told_apart (pairs_of ts)) (once_terms (told_apart (pairs_of ts)) (told_once (pairs_of ts) (pairs_once ts))) (told_there ts)

    long : length (told_apart (pairs_of ts)) ≡ length (pairs_of ts) + length (pairs_of ts)
    long = length-append (map equal_pair (pairs_of ts)) (map unequal_pair (pairs_of ts)) ∙ (λ i. length-map (pairs_of ts) equal_pair i + length-map (pairs_of ts) unequal_pair i)

    over : (p k n d : ℕ) → p + p + d ≡ d * d → k ≡ p + p → k ≤ n → limit < d * d - d → limit < n
    over p k n d h is le lt = omega (arith, h, is, le, lt)

    above : (n : ℕ) → limit < n → nat_le n limit ≡ false
    above n h = grind (arith, nat_tests, h)
