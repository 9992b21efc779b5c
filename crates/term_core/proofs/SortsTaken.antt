-- Sorts that a head takes.
use Rattle.std.proofs.Common.{◌≡◌, suc, Bool, true, false, ◌&&◌, List, [], ◌∷◌, length, refl, ap, ◌∙◌}
use Rattle.spec_sorts.specs.Terms.{Sort, same_sort, same_sorts}

pub lengths_differ : (ss ts : List Sort) → (length ss ≡ length ts → ⊥) → same_sorts ss ts ≡ false
lengths_differ [] [] other = absurd (other refl)
lengths_differ [] (t ∷ ts) other = refl
lengths_differ (s ∷ ss) [] other = refl
lengths_differ (s ∷ ss) (t ∷ ts) other = ap (λ b. same_sort s t && b) (lengths_differ ss ts (λ e. other (ap suc e))) ∙ no (same_sort s t)
  where
    no : (b : Bool) → (b && false) ≡ false
    no true = refl
    no false = refl
