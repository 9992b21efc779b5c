-- Members of lists of terms.
use Rattle.std.proofs.Common.{◌≡◌, Bool, true, false, ◌||◌, if◌then◌else◌, ◌⊎◌, inr, List, [], ◌∷◌, Contains, refl, sym, ap, ◌∙◌, subst, true≢false}
use Rattle.std.specs.Bool.{Decides}
use Rattle.std.specs.List.{list_any, AllByRecursion, IsDistinct}
use Rattle.std.proofs.lemmas.Map.Keys.{IsDistinct-cons}
use Rattle.std.proofs.lemmas.Map.Made.{is_member-Decides}
use Rattle.spec_text.proofs.Members.{first, later, cases}
use Rattle.spec_sorts.specs.Terms.{Term, same_term}
use Rattle.spec_sorts.specs.Subterms.{has_term, with_term}
use Rattle.spec_sorts.proofs.SameTerms.{terms_decide, terms_equivalence}

-- the words of the test
has_term-any : (us : List Term) (t : Term) → has_term us t ≡ list_any (same_term t) us
has_term-any [] t = refl
has_term-any (u ∷ us) t = λ i. terms_equivalence.symm u t i || has_term-any us t i

pub has_term-Decides : (us : List Term) (t : Term) → Decides (has_term us t) (Contains us t)
has_term-Decides us t = subst (λ b. Decides b (Contains us t)) (sym (has_term-any us t)) (is_member-Decides terms_decide us t)

apart : (us : List Term) (t : Term) → list_any (same_term t) us ≡ false → AllByRecursion (λ u. same_term t u ≡ false) us
apart [] t e = tt
apart (u ∷ us) t e = go (same_term t u) refl (apart us t)
  where
    go : (b : Bool) → same_term t u ≡ b → (list_any (same_term t) us ≡ false → AllByRecursion (λ v. same_term t v ≡ false) us) → (same_term t u ≡ false) × AllByRecursion (λ v. same_term t v ≡ false) us
    go true f rest = absurd (true≢false (sym (ap (λ c. c || list_any (same_term t) us) f) ∙ e))
    go false f rest = (f, rest (sym (ap (λ c. c || list_any (same_term t) us) f) ∙ e))

-- What a list has after a term came into it.
pub record IsWith (us new : List Term) (t : Term) : Type 0 where
  pub kept : (u : Term) → Contains us u → Contains new u
  pub there : Contains new t
  pub no_others : (u : Term) → Contains new u → (t ≡ u) ⊎ Contains us u
  pub distinct : IsDistinct same_term us → IsDistinct same_term new

pub with_one : (us : List Term) (t : Term) → IsWith us (with_term us t) t
with_one us t = go (has_term us t) refl
  where
    go : (b : Bool) → has_term us t ≡ b → IsWith us (with_term us t) t
    go true e = subst (λ new. IsWith us new t) (sym (ap (λ c. if c then us else t ∷ us) e)) (record {
      kept = λ u c. c;
      there = (has_term-Decides us t).0 e;
      no_others = λ u c. inr c;
      distinct = λ d. d;
    })
    go false e = subst (λ new. IsWith us new t) (sym (ap (λ c. if c then us else t ∷ us) e)) (record {
      kept = later t us;
      there = first t us;
      no_others = cases t us;
      distinct = IsDistinct-cons same_term t us (apart us t (sym (has_term-any us t) ∙ e));
    })
