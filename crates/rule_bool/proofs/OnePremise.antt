-- That a clause has terms, by their numbers, and what rules on one premise say then.
use Rattle.std.proofs.Common.{◌≡◌, ℕ, ◌+◌, ◌<◌, List, [], ◌∷◌, map, length, get_or, take, All, Contains, inl, inr, sym, ap, subst, arith}
use Rattle.std.proofs.lemmas.List.{take_more}
use Rattle.std.proofs.lemmas.List.Elements.{All-contains, Contains-push_cases}
use Rattle.spec_text.proofs.Members.{to_image, from_image}
use Rattle.spec_sorts.specs.Terms.{Term}
use Rattle.spec_sorts.specs.Literals.{Clause}
use Rattle.spec_sorts.proofs.General.{list_of-terms_of}
use Rattle.spec_proofs.specs.Resolution.{IsWithin}
use Rattle.spec_rules.specs.Rules.{IsOr, IsWeakening}
use Rattle.term_core.specs.declared.ids.TermId.{TermId}
use Rattle.term_core.specs.Tables.{TableView, term_at, IsIn, AreIn, AreDifferent, clause_at}
use Rattle.rule_bool.specs.Premises.{IsDisjunctionAlone}

-- a term that is at none of the places up to here, nor at the next
pub not_yet : (ids : List TermId) (k : ℕ) (d id : TermId) → k < length ids → (get_or ids k d ≡ id → ⊥) → (Contains (take k ids) id → ⊥) → Contains (take (k + 1) ids) id → ⊥
not_yet ids k d id lt other free i =
    elim (Contains-push_cases (take k ids) (get_or ids k d) id (subst (λ (xs : List TermId). Contains xs id) (take_more ids k d lt) i)) [
      | inl was ↦ free was
      | inr is ↦ other is
    ]

module _ (t : TableView) (ids clause : List TermId) where
  -- a clause that has the numbers has the terms
  pub within_there : IsWithin ids clause → IsWithin (clause_at t ids) (clause_at t clause)
  within_there h x i =
      let id = from_image (term_at t) ids x i in
      subst (λ (y : Term). Contains (clause_at t clause) y) id.2 (to_image (term_at t) clause id.0 (h id.0 id.1))

  -- and the other way round
  pub within_back : AreDifferent t.terms → AreIn t ids → AreIn t clause → IsWithin (clause_at t ids) (clause_at t clause) → IsWithin ids clause
  within_back differ ids_in clause_in h id i =
      let other = from_image (term_at t) clause (term_at t id) (h (term_at t id) (to_image (term_at t) ids id i)) in
      let number : ℕ → TermId = λ n. record { 0 = n } in
      let same = differ other.0.0 id.0 (All-contains (IsIn t) clause other.0 clause_in other.1) (All-contains (IsIn t) ids id ids_in i) other.2 in
      subst (λ (x : TermId). Contains clause x) (ap number same) other.1

-- a list of one
single : {X : Type 0} (xs : List X) (x : X) → length xs ≡ 1 → x ≡ get_or xs 0 x → xs ≡ x ∷ []
single [] x len at = absurd (omega (arith, len))
single (y ∷ []) x len at = λ i. sym at i ∷ []
single (y ∷ z ∷ zs) x len at = absurd (omega (arith, len))

module _ (t : TableView) (premises : List (List TermId)) (clause : List TermId) where
  module _ (arguments : List TermId) (one : IsDisjunctionAlone t premises arguments) where
    -- a clause with the arguments of the disjunction
    pub opened : IsWithin arguments clause → IsOr (map (clause_at t) premises) (clause_at t clause)
    opened h = subst (λ (cs : List Clause). IsOr cs (clause_at t clause)) (sym one.same)
        (subst (λ (ts : List Term). IsWithin ts (clause_at t clause)) (sym (list_of-terms_of (clause_at t arguments))) (within_there t arguments clause h))

    -- a clause without one of them
    pub not_opened : AreDifferent t.terms → AreIn t clause → (IsWithin arguments clause → ⊥) → IsOr (map (clause_at t) premises) (clause_at t clause) → ⊥
    not_opened differ there lacks r = lacks (within_back t arguments clause differ one.there there
        (subst (λ (ts : List Term). IsWithin ts (clause_at t clause)) (list_of-terms_of (clause_at t arguments))
        (subst (λ (cs : List Clause). IsOr cs (clause_at t clause)) one.same r)))

  module _ (premise : List TermId) (len : length premises ≡ 1) (at : premise ≡ get_or premises 0 premise) where
    -- there is that premise alone
    alone : premises ≡ premise ∷ []
    alone = single premises premise len at

    -- a clause with the literals of the premise
    pub kept : IsWithin premise clause → IsWeakening (map (clause_at t) premises) (clause_at t clause)
    kept h = subst (λ (ps : List (List TermId)). IsWeakening (map (clause_at t) ps) (clause_at t clause)) (sym alone) (within_there t premise clause h)

    -- a clause without one of them
    pub not_kept : AreDifferent t.terms → All (AreIn t) premises → AreIn t clause → (IsWithin premise clause → ⊥) → IsWeakening (map (clause_at t) premises) (clause_at t clause) → ⊥
    not_kept differ premises_in clause_in lacks r =
        let premise_in = subst (λ (ps : List TermId). AreIn t ps) (sym at) (premises_in 0 premise (omega (arith, len))) in
        lacks (within_back t premise clause differ premise_in clause_in (subst (λ (ps : List (List TermId)). IsWeakening (map (clause_at t) ps) (clause_at t clause)) alone r))
