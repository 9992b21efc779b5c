-- Literals of one term.
use Rattle.std.proofs.Common.{◌≡◌, Bool, true, false, not, ◌⊎◌, inl, inr, refl, sym, subst}
use Rattle.term_core.specs.declared.ids.Lit.{Lit}
use Rattle.clause_literals.specs.Literals.{lit_complement}

-- a literal of one term is this one or its complement
pub one_of_two : (l : Lit) (p : Bool) → (P : Lit → Type 0) → P (record { term = l.term; positive = p }) → P l ⊎ P (lit_complement l)
one_of_two l p P h = go l.positive p h refl
  where
    go : (s q : Bool) → P (record { term = l.term; positive = q }) → l.positive ≡ s → P l ⊎ P (lit_complement l)
    go true true h e = inl (subst P (λ j. record { term = l.term; positive = sym e j }) h)
    go false false h e = inl (subst P (λ j. record { term = l.term; positive = sym e j }) h)
    go true false h e = inr (subst P (λ j. record { term = l.term; positive = not (sym e j) }) h)
    go false true h e = inr (subst P (λ j. record { term = l.term; positive = not (sym e j) }) h)
