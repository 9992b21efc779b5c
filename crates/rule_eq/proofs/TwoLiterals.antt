-- Steps whose clause has two literals, of which the second is a choice's equality.
use Rattle.std.proofs.Common.{◌≡◌, ◌≢◌, List, [], ◌∷◌, refl, subst}
use Rattle.spec_sorts.specs.Literals.{Clause}
use Rattle.spec_equality.specs.EqualityRules.{IsThen, IsElse}
use Rattle.term_core.specs.declared.ids.TermId.{TermId}
use Rattle.term_core.specs.Tables.{TableView, term_at, clause_at}
use Rattle.rule_eq.specs.Judging.{IsNoChoice}

module _ (t : TableView) where
  -- other clauses are of neither rule
  pub then_two : (ps : List Clause) (ids : List TermId) → ((a b : TermId) → ids ≢ a ∷ b ∷ []) → IsThen ps (clause_at t ids) → ⊥
  then_two [] [] many h = h
  then_two [] (a ∷ []) many h = h
  then_two [] (a ∷ b ∷ []) many h = many a b refl
  then_two [] (a ∷ b ∷ c ∷ ids) many h = h
  then_two (p ∷ ps) ids many h = h

  pub else_two : (ps : List Clause) (ids : List TermId) → ((a b : TermId) → ids ≢ a ∷ b ∷ []) → IsElse ps (clause_at t ids) → ⊥
  else_two [] [] many h = h
  else_two [] (a ∷ []) many h = h
  else_two [] (a ∷ b ∷ []) many h = many a b refl
  else_two [] (a ∷ b ∷ c ∷ ids) many h = h
  else_two (p ∷ ps) ids many h = h

  -- nor are those with another second literal
  then_choice : (ps : List Clause) (a b : TermId) → IsNoChoice (term_at t b) → IsThen ps (clause_at t (a ∷ b ∷ [])) → ⊥
  then_choice [] a b none (c, s, u, denies, is, sort) = none c s u s is sort
  then_choice (p ∷ ps) a b none h = h

  else_choice : (ps : List Clause) (a b : TermId) → IsNoChoice (term_at t b) → IsElse ps (clause_at t (a ∷ b ∷ [])) → ⊥
  else_choice [] a b none (s, u, is, sort) = none (term_at t a) s u u is sort
  else_choice (p ∷ ps) a b none h = h

  module _ (ps : List Clause) (ids : List TermId) (a b : TermId) (is : ids ≡ a ∷ b ∷ []) (none : IsNoChoice (term_at t b)) where
    pub then_none : IsThen ps (clause_at t ids) → ⊥
    then_none h = then_choice ps a b none (subst (λ (xs : List TermId). IsThen ps (clause_at t xs)) is h)

    pub else_none : IsElse ps (clause_at t ids) → ⊥
    else_none h = else_choice ps a b none (subst (λ (xs : List TermId). IsElse ps (clause_at t xs)) is h)
