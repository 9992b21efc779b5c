-- What marked terms give.
use Rattle.std.proofs.Common.{◌≡◌, ℕ, ◌+◌, ◌<◌, ◌≤◌, Bool, false, List, [], ◌∷◌, ◌++◌, length, get_or, take, All, if◌then◌else◌, sym, ap, ◌∙◌, arith, add-one}
use Rattle.std.specs.Prelude.{flat_map}
use Rattle.std.proofs.lemmas.List.{append-nil}
use Rattle.std.proofs.lemmas.List.Elements.{All-map, All-contains, Contains-get_or}
use Rattle.std.proofs.lemmas.Grind.{flat_map-append}
use Rattle.spec_sorts.specs.Terms.{Term, no_term}
use Rattle.spec_sorts.specs.WellSorted.{IsWellSorted}
use Rattle.spec_derivations.proofs.Below.{subterms_have, argument_sorted}
use Rattle.term_core.specs.declared.ids.TermId.{TermId}
use Rattle.term_core.specs.Tables.{TableView, term_at, clause_at}
use Rattle.proof_log.specs.Logs.{AreFormulasIn}
use Rattle.proof_log.specs.Theories.{IsTermIn}
use Rattle.term_clauses.specs.Stating.{Widens}
use Rattle.term_clauses.specs.Marks.{IsMarked, marked, AreMarksOf}
use Rattle.term_clauses.proofs.Marked.{marked_more, in_marked}
use Rattle.term_clauses.proofs.Choosing.{term_kept}

module _ {Y : Type 0} (f : Term → List Y) where
  -- what the marked terms give
  abbrev pub flat_marked : List Bool → List Term → List Y
  flat_marked marks ts = flat_map f (marked marks ts)

  -- one number more, that is marked
  pub flat_marked_more : (marks : List Bool) (ts : List Term) (n : ℕ) → n < length marks → length marks ≤ length ts → IsMarked marks n → flat_marked (take n marks) ts ++ f (get_or ts n no_term) ≡ flat_marked (take (n + 1) marks) ts
  flat_marked_more marks ts n lt le here =
      let t = get_or ts n no_term in
      let one : marked (take (n + 1) marks) ts ≡ marked (take n marks) ts ++ t ∷ [] = ap (λ k. marked (take k marks) ts) (add-one n) ∙ marked_more marks ts n lt le ∙ ap (λ b. marked (take n marks) ts ++ (if b then t ∷ [] else [])) here in
      ap (λ ys. flat_marked (take n marks) ts ++ ys) (sym (append-nil (f t))) ∙ sym (flat_map-append f (marked (take n marks) ts) (t ∷ [])) ∙ ap (flat_map f) (sym one)

  -- or is not
  pub flat_marked_same : (marks : List Bool) (ts : List Term) (n : ℕ) → n < length marks → length marks ≤ length ts → get_or marks n false ≡ false → flat_marked (take n marks) ts ≡ flat_marked (take (n + 1) marks) ts
  flat_marked_same marks ts n lt le here =
      let t = get_or ts n no_term in
      let none : marked (take (n + 1) marks) ts ≡ marked (take n marks) ts ++ [] = ap (λ k. marked (take k marks) ts) (add-one n) ∙ marked_more marks ts n lt le ∙ ap (λ b. marked (take n marks) ts ++ (if b then t ∷ [] else [])) here in
      ap (flat_map f) (sym (none ∙ append-nil (marked (take n marks) ts)))

-- the subterms of formulas are well sorted
pub marked_sorted : (t : TableView) (ids : List TermId) (marks : List Bool) → AreFormulasIn t ids → AreMarksOf t ids marks → All (IsWellSorted t.symbols []) (marked marks t.terms)
marked_sorted t ids marks formulas m k d lt =
    let each : All (IsWellSorted t.symbols []) (clause_at t ids) = All-map (IsWellSorted t.symbols []) (term_at t) ids (λ i e within. (formulas i e within).1.term) in
    subterms_have (IsWellSorted t.symbols []) (argument_sorted t.symbols []) (clause_at t ids) each _ (m.only _ (Contains-get_or (marked marks t.terms) k d lt))

-- the term of a marked number, where the marked terms are well sorted
pub marked_term : (t now : TableView) → Widens t now → (marks : List Bool) → length marks ≤ length t.terms → All (IsWellSorted t.symbols []) (marked marks t.terms) → (n : ℕ) → n < length marks → IsMarked marks n → IsTermIn now (record { 0 = n })
marked_term t now wider marks le sorted n lt here =
    term_kept t now wider (record { 0 = n })
    (omega (arith, lt, le), All-contains (IsWellSorted t.symbols []) (marked marks t.terms) (get_or t.terms n no_term) sorted (in_marked marks t.terms le n here))
