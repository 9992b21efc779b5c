-- Steps with one premise of one term.
use Rattle.std.proofs.Common.{◌≡◌, ◌≢◌, List, [], ◌∷◌, map, refl, subst, arith}
use Rattle.std.specs.Prelude.{All}
use Rattle.spec_sorts.specs.Literals.{Clause}
use Rattle.spec_equality.specs.EqualityRules.{IsSymmetric}
use Rattle.term_core.specs.declared.ids.TermId.{TermId}
use Rattle.term_core.specs.Tables.{TableView, IsIn, AreIn, clause_at}

-- other premises are turned round to nothing
pub not_alone : (t : TableView) (ps : List (List TermId)) (c : Clause) → ((u : TermId) → ps ≢ (u ∷ []) ∷ []) → IsSymmetric (map (clause_at t) ps) c → ⊥
not_alone t [] c many h = h
not_alone t ([] ∷ []) c many h = let e = h.2 in cc
not_alone t ((u ∷ []) ∷ []) c many h = many u refl
not_alone t ((u ∷ v ∷ us) ∷ []) c many h = let e = h.2 in cc
not_alone t ([] ∷ q ∷ ps) c many h = h
not_alone t ((u ∷ us) ∷ q ∷ ps) c many h = h

-- the one term is the table's
pub alone_in : (t : TableView) (ps : List (List TermId)) (u : TermId) → ps ≡ (u ∷ []) ∷ [] → All (AreIn t) ps → IsIn t u
alone_in t ps u is h = subst (λ (xs : List (List TermId)). All (AreIn t) xs) is h 0 [] (omega arith) 0 u (omega arith)
