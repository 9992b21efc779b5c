-- Equalities of pairs of terms: they come one after the other, and fewer are left.
use Rattle.std.proofs.Common.{◌≡◌, ◌<◌, ◌≤◌, ℕ, Bool, true, false, if◌then◌else◌, List, [], ◌∷◌, map, Contains, inl, inr, refl, sym, ◌∙◌, subst, arith}
use Rattle.std.proofs.lemmas.Bool.{true≢false}
use Rattle.spec_text.proofs.Members.{none, cases, to_image, in_flat}
use Rattle.spec_sorts.specs.Terms.{Equal, Term, pair}
use Rattle.spec_sorts.specs.Subterms.{has_term}
use Rattle.spec_sorts.specs.Subsets.{AreAmong}
use Rattle.spec_sorts.proofs.Members.{has_term-Decides}
use Rattle.solve_core.specs.Unspoken.{equalities_of, missing}

-- what is listed counts nothing, and what is not counts one
module _ (us vs : List Term) (among : AreAmong us vs) (t : Term) where
  abbrev one_of : Bool → ℕ
  one_of b = if b then 0 else 1

  pub one_le : one_of (has_term vs t) ≤ one_of (has_term us t)
  one_le = go (has_term us t) refl (has_term vs t) refl
    where
      go : (b : Bool) → has_term us t ≡ b → (c : Bool) → has_term vs t ≡ c → one_of c ≤ one_of b
      go true e true f = omega arith
      go true e false f = absurd (true≢false (sym ((has_term-Decides vs t).1 (among t ((has_term-Decides us t).0 e))) ∙ f))
      go false e true f = omega arith
      go false e false f = omega arith

  pub one_less : (Contains us t → ⊥) → Contains vs t → one_of (has_term vs t) < one_of (has_term us t)
  one_less new here = go (has_term us t) refl (has_term vs t) refl
    where
      go : (b : Bool) → has_term us t ≡ b → (c : Bool) → has_term vs t ≡ c → one_of c < one_of b
      go true e c f = absurd (new ((has_term-Decides us t).0 e))
      go false e true f = omega arith
      go false e false f = absurd (true≢false (sym ((has_term-Decides vs t).1 here) ∙ f))

module _ (us vs : List Term) (among : AreAmong us vs) where
  -- no more are missing where more are there
  pub missing_le : (ts : List Term) → missing ts vs ≤ missing ts us
  missing_le [] = omega arith
  missing_le (t ∷ ts) = omega (arith, one_le us vs among t, missing_le ts)

  -- and fewer where one of them came
  pub missing_less : (ts : List Term) (e : Term) → Contains ts e → (Contains us e → ⊥) → Contains vs e → missing ts vs < missing ts us
  missing_less [] e i new here = absurd (none e i)
  missing_less (t ∷ ts) e i new here = elim (cases t ts e i) [
    | inl is ↦ omega (arith, missing_le ts, one_less us vs among t (subst (λ u. Contains us u → ⊥) (sym is) new) (subst (Contains vs) (sym is) here))
    | inr rest ↦ omega (arith, one_le us vs among t, missing_less ts e rest new here)
  ]

-- the equality of two terms is one of those of each two
pub pair_among : (ts : List Term) (s u : Term) → Contains ts s → Contains ts u → Contains (equalities_of ts) (pair Equal s u)
pair_among ts s u i j = in_flat (λ (a : Term). map (λ b. pair Equal a b) ts) ts s (pair Equal s u) i (to_image (λ b. pair Equal s b) ts u j)
