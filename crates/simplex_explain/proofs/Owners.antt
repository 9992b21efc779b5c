-- The point of the terms: each that a variable stands for has the value of the variable.
use Rattle.std.proofs.Common.{◌≡◌, ℕ, zero, suc, Bool, true, false, cond, List, [], ◌∷◌, Option, Some, None, refl, sym, ◌∙◌, ap, true≢false}
use Rattle.std.proofs.lemmas.Option.{none-some}
use Rattle.spec_sorts.specs.Terms.{Term, same_term}
use Rattle.spec_sorts.proofs.SameTerms.{one_term, term_itself}
use Rattle.spec_tableaux.specs.Spaces.{Pair}
use Rattle.spec_tableaux.specs.Numbers.{Number}
use Rattle.spec_simplex.specs.Points.{Point}
use Rattle.term_core.specs.declared.ids.TermId.{TermId}
use Rattle.term_core.specs.Tables.{TableView, term_at, AreDifferent}
use Rattle.spec_tableaux.specs.Points.{deltas}
use Rattle.simplex_atoms.specs.Owners.{owner_at, AreOwnedOnce, AreOwnersIn, AreOwned}

-- a variable stands for this term
abbrev represents_term : TableView → Option TermId → Term → Bool
represents_term t None u = false
represents_term t (Some id) u = same_term (term_at t id) u

-- the value of the first variable that means a term, the origin where none does
abbrev pub point_of : TableView → List (Option TermId) → (ℕ → Pair Number) → Point
point_of t [] v u = deltas.origin
point_of t (o ∷ os) v u = cond (represents_term t o u) (v zero) (point_of t os (λ y. v (suc y)) u)

nobody : (y : ℕ) (id : TermId) → owner_at [] y ≡ Some id → ⊥
nobody zero id e = none-some id e
nobody (suc y) id e = none-some id e

here : (t : TableView) (p : Option TermId) (u : Term) → represents_term t p u ≡ true → (x : TermId) × (p ≡ Some x) × (term_at t x ≡ u)
here t None u g = absurd (true≢false (sym g))
here t (Some x) u g = (x, refl, one_term (term_at t x) u g)

-- where each variable that means the term has one value, and one is there, the point has it
found : (t : TableView) (os : List (Option TermId)) (v : ℕ → Pair Number) (u : Term) (w : Pair Number)
    → ((x : ℕ) (id : TermId) → owner_at os x ≡ Some id → term_at t id ≡ u → v x ≡ w) → (y : ℕ) (id : TermId) → owner_at os y ≡ Some id → term_at t id ≡ u → point_of t os v u ≡ w
found t [] v u w h y id e f = absurd (nobody y id e)
found t (o ∷ os) v u w h y id e f = by (represents_term t o u) refl (rest (λ z k. found t os (λ y. v (suc y)) u w (λ x i a b. h (suc x) i a b) z id k f) y e)
  where
    rest : ((z : ℕ) → owner_at os z ≡ Some id → point_of t os (λ y. v (suc y)) u ≡ w) → (z : ℕ) → owner_at (o ∷ os) z ≡ Some id → represents_term t o u ≡ false → point_of t os (λ y. v (suc y)) u ≡ w
    rest later zero e g = absurd (true≢false (sym (ap (λ (p : Option TermId). represents_term t p u) e ∙ ap (λ (s : Term). same_term s u) f ∙ term_itself u) ∙ g))
    rest later (suc z) e g = later z e

    by : (q : Bool) → represents_term t o u ≡ q → (represents_term t o u ≡ false → point_of t os (λ y. v (suc y)) u ≡ w) → cond q (v zero) (point_of t os (λ y. v (suc y)) u) ≡ w
    by true g r = let x = here t o u g in h zero x.0 x.1 x.2
    by false g r = r g

-- where no variable means the term, it has the origin
pub absent : (t : TableView) (os : List (Option TermId)) (v : ℕ → Pair Number) (u : Term) → ((y : ℕ) (id : TermId) → owner_at os y ≡ Some id → term_at t id ≡ u → ⊥) → point_of t os v u ≡ deltas.origin
absent t [] v u h = refl
absent t (o ∷ os) v u h = by (represents_term t o u) refl (absent t os (λ y. v (suc y)) u (λ y id. h (suc y) id))
  where
    by : (q : Bool) → represents_term t o u ≡ q → point_of t os (λ y. v (suc y)) u ≡ deltas.origin → cond q (v zero) (point_of t os (λ y. v (suc y)) u) ≡ deltas.origin
    by true g r = let x = here t o u g in absurd (h zero x.0 x.1 x.2)
    by false g r = r

pub owned : (t : TableView) (owners : List (Option TermId)) (v : ℕ → Pair Number) → AreDifferent t.terms → AreOwnersIn t owners → AreOwnedOnce owners → AreOwned t owners (point_of t owners v) v
owned t owners v unique in_table once y id e = sym (found t owners v (term_at t id) (v y) same y id e refl)
  where
    same : (x : ℕ) (i : TermId) → owner_at owners x ≡ Some i → term_at t i ≡ term_at t id → v x ≡ v y
    same x i o f =
        let number : i.0 ≡ id.0 = unique i.0 id.0 (in_table x i o) (in_table y id e) f in
        ap v (once x y id (o ∙ ap (λ (n : ℕ). Some (record { 0 = n })) number) e)
