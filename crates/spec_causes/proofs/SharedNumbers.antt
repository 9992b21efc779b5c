-- Numbers of terms, some of which are those of their heads.
use Rattle.std.proofs.Common.{◌≡◌, ◌⊎◌, inl, inr, List, [], ◌∷◌, All, refl, sym, ◌∙◌, ap, subst}
use Rattle.std.proofs.lemmas.List.Elements.{All-weaker}
use Rattle.spec_numbers.specs.Fractions.{Fraction}
use Rattle.spec_sorts.specs.Terms.{Head, Minus, Plus, Times, Divide, Literal, Term, Terms, app, nil, cons}
use Rattle.spec_sorts.specs.Literals as literals
use Rattle.spec_arithmetic.specs.Numbers.{head_number, number_at, numbers_at}
use Rattle.spec_simplex.specs.Numbers.{Compares, HoldsAt}

-- what a head gives, it gives again
head_twice : (h : Head) (ps : List Fraction) (o : Fraction) → head_number h ps (head_number h ps o) ≡ head_number h ps o
head_twice Plus [] o = refl
head_twice Plus (p ∷ ps) o = refl
head_twice Times [] o = refl
head_twice Times (p ∷ ps) o = refl
head_twice Minus [] o = refl
head_twice Minus (p ∷ []) o = refl
head_twice Minus (p ∷ q ∷ ps) o = refl
head_twice Divide [] o = refl
head_twice Divide (p ∷ []) o = refl
head_twice Divide (p ∷ q ∷ ps) o = refl
head_twice (Literal q) ps o = refl
head_twice h ps o = refl

-- each term has its own number, or that of its head
module _ (m n : Term → Fraction) (each : (u : Term) → (m u ≡ n u) ⊎ (m u ≡ number_at n u)) where
  one_head : (h : Head) (ts : Terms) → (m (app h ts) ≡ n (app h ts)) ⊎ (m (app h ts) ≡ number_at n (app h ts))
      → head_number h (numbers_at n ts) (m (app h ts)) ≡ head_number h (numbers_at n ts) (n (app h ts))
  unfolding number_at
  one_head h ts (inl is) = ap (head_number h (numbers_at n ts)) is
  one_head h ts (inr is) = ap (head_number h (numbers_at n ts)) is ∙ head_twice h (numbers_at n ts) (n (app h ts))

  mutual
    unfolding number_at numbers_at

    -- by the heads all terms have the same numbers
    pub same_number : (t : Term) → number_at m t ≡ number_at n t
    same_number (app h ts) = ap (λ ps. head_number h ps (m (app h ts))) (same_numbers ts) ∙ one_head h ts (each (app h ts))

    same_numbers : (ts : Terms) → numbers_at m ts ≡ numbers_at n ts
    same_numbers nil = refl
    same_numbers (cons t ts) = λ i. same_number t i ∷ same_numbers ts i

  -- and literals that hold at the one hold at the other
  pub still_hold : (ls : List literals.Literal) → All (HoldsAt n) ls → All (HoldsAt m) ls
  still_hold ls = All-weaker (HoldsAt n) (HoldsAt m) (λ l h c says left right. subst (λ x. Compares c.relation x (number_at m c.right)) (sym (same_number c.left))
      (subst (Compares c.relation (number_at n c.left)) (sym (same_number c.right)) (h c says left right))) ls
