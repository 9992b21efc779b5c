-- Listing the numbers that are marked, in ascending order.
use Rattle.std.proofs.Common.{◌≡◌, ℕ, ◌+◌, ◌<◌, ◌≤◌, Bool, false, if◌then◌else◌, List, [], ◌∷◌, ◌++◌, length, map, get_or, take, All, inl, inr, sym, ap, ◌∙◌, subst, arith, add-one, length-append}
use Rattle.std.proofs.lemmas.Bool.{cases_eq}
use Rattle.std.proofs.lemmas.List.{append-nil, map-append, get_or_append_left, get_or_push}
use Rattle.std.proofs.lemmas.List.Elements.{All-push}
use Rattle.spec_sorts.specs.Terms.{Term, no_term}
use Rattle.term_core.specs.declared.ids.TermId.{TermId}
use Rattle.term_clauses.specs.SpokenTerms.{no_id, AreRising}
use Rattle.term_clauses.specs.Marks.{IsMarked, marked}
use Rattle.term_clauses.proofs.Marked.{marked_more}

-- the terms of numbers, in a list of terms
abbrev pub terms_in : List Term → List TermId → List Term
terms_in ts ids = map (λ id. get_or ts id.0 no_term) ids

-- the numbers that are marked up to here
pub record AreListed (marks : List Bool) (n : ℕ) (ids : List TermId) : Type 0 where
  pub below : All (λ id. id.0 < n) ids
  pub terms : (ts : List Term) → length marks ≤ length ts → terms_in ts ids ≡ marked (take n marks) ts
  pub rising : AreRising ids

-- a greater number after others
rising_pushed : (ids : List TermId) (id : TermId) → All (λ (x : TermId). x.0 < id.0) ids → AreRising ids → AreRising (ids ++ id ∷ [])
rising_pushed ids id below rising i j lt within =
    let count : length (ids ++ id ∷ []) ≡ length ids + 1 = length-append ids (id ∷ []) in
    let inside : i < length ids = omega (arith, lt, within, count) in
    let first : get_or (ids ++ id ∷ []) i no_id ≡ get_or ids i no_id = get_or_append_left ids (id ∷ []) no_id i inside in
    elim (cases_eq (length ids) j) [
      | inl last ↦
          let second : get_or (ids ++ id ∷ []) j no_id ≡ id = get_or_push ids id no_id j last in
          omega (arith, below i no_id inside, ap (λ (x : TermId). x.0) first, ap (λ (x : TermId). x.0) second)
      | inr other ↦
          let here : j < length ids = grind (arith, within, count, other) in
          let second : get_or (ids ++ id ∷ []) j no_id ≡ get_or ids j no_id = get_or_append_left ids (id ∷ []) no_id j here in
          omega (arith, rising i j lt here, ap (λ (x : TermId). x.0) first, ap (λ (x : TermId). x.0) second)
    ]

-- a number more, that is marked
pub listed_more : (marks : List Bool) (n : ℕ) (ids all : List TermId) → n < length marks → IsMarked marks n → all ≡ ids ++ record { 0 = n } ∷ [] → AreListed marks n ids → AreListed marks (n + 1) all
listed_more marks n ids all lt here pushed h =
    let id : TermId = record { 0 = n } in
    record {
      below = subst (λ (xs : List TermId). All (λ (x : TermId). x.0 < n + 1) xs) (sym pushed) (All-push (λ (x : TermId). x.0 < n + 1) ids id (λ k d lt. omega (arith, h.below k d lt)) (omega arith));
      terms = λ ts le.
          ap (terms_in ts) pushed ∙ map-append (λ (x : TermId). get_or ts x.0 no_term) ids (id ∷ []) ∙ ap (λ (us : List Term). us ++ get_or ts n no_term ∷ []) (h.terms ts le)
          ∙ sym (ap (λ k. marked (take k marks) ts) (add-one n) ∙ marked_more marks ts n lt le ∙ ap (λ b. marked (take n marks) ts ++ (if b then get_or ts n no_term ∷ [] else [])) here);
      rising = subst AreRising (sym pushed) (rising_pushed ids id h.below h.rising);
    }

-- or is not
pub listed_same : (marks : List Bool) (n : ℕ) (ids : List TermId) → n < length marks → get_or marks n false ≡ false → AreListed marks n ids → AreListed marks (n + 1) ids
listed_same marks n ids lt here h = record {
  below = λ k d lt. omega (arith, h.below k d lt);
  terms = λ ts le.
      h.terms ts le
      ∙ sym (ap (λ k. marked (take k marks) ts) (add-one n) ∙ marked_more marks ts n lt le ∙ ap (λ b. marked (take n marks) ts ++ (if b then get_or ts n no_term ∷ [] else [])) here ∙ append-nil (marked (take n marks) ts));
  rising = h.rising;
}
