-- By the terms before it.
use Rattle.std.proofs.Common.{◌≡◌, ◌<◌, ℕ, suc, Bool, true, false, cond, List, [], ◌∷◌, length, get_or, Contains, refl, sym, ◌∙◌, inl, inr, arith}
use Rattle.std.proofs.lemmas.Bool.{false≢true}
use Rattle.spec_text.proofs.Members.{cases, none}
use Rattle.spec_sorts.specs.Terms.{Term, same_term}
use Rattle.spec_sorts.proofs.SameTerms.{terms_decide}
use Rattle.spec_valuations.specs.Classes.{class_in}
use Rattle.spec_valuations.proofs.laws.listed_terms_have_their_places_class.Goals as goal

-- a place where the term is, whose class it has
abbrev HasPlace : List Term → List ℕ → Term → ℕ → Type 0
HasPlace ts ks u class = (k : ℕ) × (k < length ts) × (get_or ts k u ≡ u) × (class ≡ get_or ks k 0)

place_of : (ts : List Term) (ks : List ℕ) (u : Term) → Contains ts u → HasPlace ts ks u (class_in ts ks u)
place_of [] ks u u_in = absurd (none u u_in)
place_of (t ∷ ts) [] u u_in = (u_in.0, u_in.1, u_in.2, refl)
place_of (t ∷ ts) (k ∷ ks) u u_in = go (same_term t u) refl (place_of ts ks u)
  where
    go : (b : Bool) → same_term t u ≡ b → (Contains ts u → HasPlace ts ks u (class_in ts ks u)) → HasPlace (t ∷ ts) (k ∷ ks) u (cond b k (class_in ts ks u))
    go true e rest = (0, omega arith, (terms_decide t u).0 e, refl)
    go false e rest = elim (cases t ts u u_in) [
      | inl same ↦ absurd (false≢true (sym e ∙ (terms_decide t u).1 same))
      | inr later ↦ let h = rest later in (suc h.0, omega (arith, h.1), h.2, h.3)
    ]

pub returns : goal.returns
returns c = place_of
