-- Where the clauses that define choices are met, each choice has the value of its branch.
use Rattle.std.proofs.Common.{◌≡◌, ◌≢◌, ℕ, Bool, true, List, [], ◌∷◌, Contains, refl, sym, ap, ◌∙◌}
use Rattle.spec_numbers.specs.Fractions.{Fraction}
use Rattle.spec_sorts.specs.Terms.{Sort, Truth, Number, Declared, Equal, Ite, Term, of, sort_of}
use Rattle.spec_sorts.specs.Values.{number, element}
use Rattle.spec_valuations.specs.Classes.{value_in, value_by, AreClasses, TellsNumbers, Chooses, AreDefined}

module _ (truths : Term → Bool) (point : Term → Fraction) (class : Term → ℕ) (terms : List Term) (classes : AreClasses truths class terms) (numbers : TellsNumbers truths point terms) where
  -- sides of an equality that is true have one value
  one_worth : (s t : Term) (so : Sort) → so ≢ Truth → Contains terms (of Equal (s ∷ t ∷ [])) → sort_of s ≡ so → sort_of t ≡ so → truths (of Equal (s ∷ t ∷ [])) ≡ true
      → value_by truths point class s ≡ value_by truths point class t
  one_worth s t Truth other c es et e = absurd (other refl)
  one_worth s t Number other c es et e =
      ap (λ x. value_in x (truths s) (point s) (class s)) es ∙ ap number ((numbers s t c es).0 e) ∙ sym (ap (λ x. value_in x (truths t) (point t) (class t)) et)
  one_worth s t (Declared n) other c es et e =
      ap (λ x. value_in x (truths s) (point s) (class s)) es ∙ ap (element n) ((classes.equalities s t n c es).0 e) ∙ sym (ap (λ x. value_in x (truths t) (point t) (class t)) et)

  -- so a choice has the value of the branch that its condition chooses
  pub chooses : AreDefined truths terms → Chooses truths (value_by truths point class) terms
  unfolding sort_of
  chooses d c a b i other = (
    λ e. let h = d.first c a b i other in one_worth (of Ite (c ∷ a ∷ b ∷ [])) a (sort_of a) other h.0 refl refl (h.1 e),
    λ e. let h = d.second c a b i other in one_worth (of Ite (c ∷ a ∷ b ∷ [])) b (sort_of a) other h.0 refl (sym (d.branches c a b i other)) (h.1 e),
  )
