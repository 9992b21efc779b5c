-- What an assignment with the terms of its variables is, and what terms are among others, over a table that has more.
use Rattle.std.proofs.Common.{◌≡◌, zero, suc, List, [], ◌∷◌, map, All, Contains, Option, Some, None, refl, sym, ap, subst}
use Rattle.std.proofs.lemmas.List.Elements.{All-contains}
use Rattle.spec_sorts.specs.Terms.{Term}
use Rattle.spec_sorts.specs.Subsets.{AreAmong}
use Rattle.term_core.specs.declared.ids.TermId.{TermId}
use Rattle.term_core.specs.declared.ids.Lit.{Lit}
use Rattle.term_core.specs.Tables.{TableView, term_at, clause_at, IsIn, Extends}
use Rattle.term_core.proofs.TermsExtend.{term_at-kept, clause_at-kept}
use Rattle.simplex_check.specs.Assignments.{AssignmentView}
use Rattle.simplex_atoms.specs.Owners.{AreOwnersIn}
use Rattle.simplex_atoms.specs.TermTableauViews.{owner_meant, term_tableau_in}
use Rattle.simplex_explain.proofs.StatedBounds.{all_from}

module _ (t u : TableView) (more : Extends t u) where
  -- owners are the same terms
  owners_kept : (os : List (Option TermId)) → AreOwnersIn t os → map (owner_meant u) os ≡ map (owner_meant t) os
  owners_kept [] h = refl
  owners_kept (None ∷ os) h = ap (λ l. None ∷ l) (owners_kept os (λ y. h (suc y)))
  owners_kept (Some id ∷ os) h = λ i. Some (term_at-kept t u more id (h zero id refl) i) ∷ owners_kept os (λ y. h (suc y)) i

  pub term_tableau_kept : (owners : List (Option TermId)) (b : AssignmentView) → AreOwnersIn t owners → term_tableau_in u owners b ≡ term_tableau_in t owners b
  term_tableau_kept owners b h = λ i. record { owners = owners_kept owners h i; listed = b.tableau.listed; rows = b.tableau.rows; values = b.values }

  pub among_kept : (ts : List Term) (ids : List TermId) → All (IsIn t) ids → AreAmong (clause_at t ids) ts → AreAmong (clause_at u ids) ts
  among_kept ts ids there among = subst (λ us. AreAmong us ts) (sym (clause_at-kept t u more ids there)) among

  pub atoms_kept : (ts : List Term) (ls : List Lit) → All (λ (l : Lit). IsIn t l.term) ls → All (λ (l : Lit). Contains ts (term_at t l.term)) ls
      → All (λ (l : Lit). Contains ts (term_at u l.term)) ls
  atoms_kept ts ls there among = all_from (λ (l : Lit). Contains ts (term_at u l.term)) ls (λ l has. subst (Contains ts)
      (sym (term_at-kept t u more l.term (All-contains (λ (l : Lit). IsIn t l.term) ls l there has)))
      (All-contains (λ (l : Lit). Contains ts (term_at t l.term)) ls l among has))
