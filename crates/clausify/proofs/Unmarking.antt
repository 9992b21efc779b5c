-- Taking marks away, one after the other.
use Rattle.std.proofs.Common.{◌≡◌, ◌≢◌, ℕ, ◌+◌, ◌<◌, ◌≤◌, Bool, false, List, [], ◌∷◌, ◌++◌, length, get_or, take, drop, All, Contains, inl, inr, sym, ap, ◌∙◌, subst, refl, arith}
use Rattle.std.specs.Prelude.{slice_set}
use Rattle.std.proofs.lemmas.Bool.{false≢true, cases_eq}
use Rattle.std.proofs.lemmas.List.{take_more, length-set, get_or-set_same, get_or-set_other}
use Rattle.std.proofs.lemmas.List.Elements.{Contains-append_left, Contains-append_right, Contains-append_cases, Contains-get_or, All-contains}
use Rattle.spec_text.proofs.Members.{first, only}
use Rattle.spec_sorts.specs.Terms.{Term}
use Rattle.spec_sorts.specs.Subsets.{AreAmong}
use Rattle.term_core.specs.declared.ids.TermId.{TermId}
use Rattle.term_clauses.specs.Marks.{IsMarked, marked}
use Rattle.term_clauses.proofs.Arguments.{no_number}
use Rattle.term_clauses.proofs.Marked.{marked_below, in_marked, from_marked}
use Rattle.clausify.specs.Unmarking.{Unmarks}

-- one number more
step : (old now new : List Bool) (done : List TermId) (id : TermId) → length new ≡ length now → (IsMarked new id.0 → ⊥) → ((k : ℕ) → k ≢ id.0 → get_or new k false ≡ get_or now k false)
    → Unmarks old done now → Unmarks old (done ++ id ∷ []) new
step old now new done id long gone others h = record {
  length = long ∙ h.length;
  were = λ k e. elim (cases_eq k id.0) [
    | inl same ↦ absurd (gone (subst (IsMarked new) same e))
    | inr other ↦ h.were k (sym (others k other) ∙ e)
  ];
  none = λ i i_in e. elim (cases_eq i.0 id.0) [
    | inl same ↦ gone (subst (IsMarked new) same e)
    | inr other ↦ elim (Contains-append_cases done (id ∷ []) i i_in) [
      | inl before ↦ h.none i before (sym (others i.0 other) ∙ e)
      | inr last ↦ other (sym (ap (λ (x : TermId). x.0) (only id i last)))
    ]
  ];
  kept = λ k e. elim (cases_eq k id.0) [
    | inl same ↦ inr (id, Contains-append_right done (id ∷ []) id (first id []), sym same)
    | inr other ↦ elim (h.kept k e) [
      | inl still ↦ inl (others k other ∙ still)
      | inr by ↦ inr (by.0, Contains-append_left done (id ∷ []) by.0 by.1, by.2)
    ]
  ];
}

module _ (old now new : List Bool) (ids : List TermId) (k : ℕ) (lt : k < length ids) where
  abbrev id : TermId
  id = get_or ids k no_number

  one_more : Unmarks old (take k ids ++ id ∷ []) new → Unmarks old (take (k + 1) ids) new
  one_more h = subst (λ (done : List TermId). Unmarks old done new) (sym (take_more ids k no_number lt)) h

  -- one that may be marked
  pub unmark_here : id.0 < length now → new ≡ slice_set now id.0 false → Unmarks old (take k ids) now → Unmarks old (take (k + 1) ids) new
  unmark_here within is h =
      one_more (step old now new (take k ids) id (ap length is ∙ length-set now id.0 false) (λ e. false≢true (sym (ap (λ ms. get_or ms id.0 false) is ∙ get_or-set_same now id.0 false false within) ∙ e))
      (λ j other. ap (λ ms. get_or ms j false) is ∙ get_or-set_other now id.0 j false false other) h)

  -- or one beyond the marks
  pub unmark_beyond : length now ≤ id.0 → new ≡ now → Unmarks old (take k ids) now → Unmarks old (take (k + 1) ids) new
  unmark_beyond beyond is h = one_more (step old now new (take k ids) id (ap length is) (λ e. let lt = marked_below now id.0 (subst (λ ms. IsMarked ms id.0) is e) in omega (arith, lt, beyond)) (λ j other. ap (λ ms. get_or ms j false) is) h)

-- what was written into a list's place, taken back
pub written_back : (new items : List Bool) (n : ℕ) → n ≡ length new → take n (new ++ drop (length new) items) ≡ new
written_back new items n e = ap (λ m. take m (new ++ drop (length new) items)) e ∙ front new (drop (length new) items)
  where
    front : (xs ys : List Bool) → take (length xs) (xs ++ ys) ≡ xs
    front [] ys = refl
    front (x ∷ xs) ys = ap (λ zs. x ∷ zs) (front xs ys)

-- what is marked still was marked
pub left_among : (old new : List Bool) (ids : List TermId) (ts : List Term) → length old ≤ length ts → Unmarks old ids new → AreAmong (marked new ts) (marked old ts)
left_among old new ids ts le h u u_in = let x = from_marked new ts u u_in in subst (Contains (marked old ts)) x.2 (in_marked old ts le x.0 (h.were x.0 x.1))

-- so all of it have what all had
pub left_have : (P : Term → Type 0) (old new : List Bool) (ids : List TermId) (ts : List Term) → length old ≤ length ts → Unmarks old ids new → All P (marked old ts) → All P (marked new ts)
left_have P old new ids ts le h each k d lt = All-contains P (marked old ts) (get_or (marked new ts) k d) each (left_among old new ids ts le h (get_or (marked new ts) k d) (Contains-get_or (marked new ts) k d lt))
