-- Marking the conjuncts of terms.
use Rattle.std.proofs.Common.{◌≡◌, ℕ, ◌<◌, ◌+◌, inl, inr, Bool, List, [], ◌∷◌, ◌++◌, length, take, get_or, All, ap, ◌∙◌, subst, sym}
use Rattle.std.proofs.lemmas.List.{take_more}
use Rattle.std.proofs.lemmas.List.Elements.{All-contains, All-contains_itself, Contains-append_left, Contains-append_right}
use Rattle.spec_text.proofs.Members.{to_image}
use Rattle.spec_sorts.specs.Terms.{And, Term, of}
use Rattle.term_core.specs.declared.ids.TermId.{TermId}
use Rattle.term_core.specs.declared.nodes.Head.TheVariants as heads
use Rattle.term_core.specs.Tables.{TableView, AreIn, term_at, clause_at, head_meant, Shape, shape_term}
use Rattle.term_clauses.specs.Marks.{IsMarked}
use Rattle.case_equalities.specs.Leads.{IsConjunctOf, itself, argument}
use Rattle.case_equalities.specs.Finding.{IsConjunctIn, AreConjuncts, MarksOnly}

-- the arguments of a conjunction are conjuncts of what it is one of
pub arguments_are : (t : TableView) (ts : List Term) (id : TermId) (s : Shape) → term_at t id ≡ shape_term t s → s.head ≡ heads.And → AreIn t s.arguments → IsConjunctIn t ts id → All (IsConjunctIn t ts) s.arguments
arguments_are t ts id s means is there h k d lt =
    let one = get_or s.arguments k d in
    let whole : term_at t id ≡ of And (clause_at t s.arguments) = means ∙ ap (λ h. of (head_meant t h) (clause_at t s.arguments)) is in
    (there k d lt, argument (clause_at t s.arguments) (term_at t one) (subst (IsConjunctOf ts) whole h.1) (to_image (term_at t) s.arguments one (All-contains_itself s.arguments k d lt)))

-- some numbers are marked, then others
pub marks_both : (old now new : List Bool) (ids js : List TermId) → MarksOnly old ids now → MarksOnly now js new → MarksOnly old (ids ++ js) new
marks_both old now new ids js f g id e = elim (g id e) [
  | inr other ↦ inr (Contains-append_right ids js id other)
  | inl before ↦ elim (f id before) [
    | inl first ↦ inl first
    | inr one ↦ inr (Contains-append_left ids js id one)
  ]
]

-- one number more
pub marks_one : (old now new : List Bool) (ids : List TermId) (k : ℕ) (d : TermId) → k < length ids → MarksOnly old (take k ids) now → MarksOnly now (get_or ids k d ∷ []) new → MarksOnly old (take (k + 1) ids) new
marks_one old now new ids k d lt f g = subst (λ (js : List TermId). MarksOnly old js new) (sym (take_more ids k d lt)) (marks_both old now new (take k ids) (get_or ids k d ∷ []) f g)

module _ (t : TableView) (roots : List TermId) where
  -- where nothing was marked, the roots alone are
  pub roots_are : (old new : List Bool) → AreIn t roots → ((k : ℕ) → IsMarked old k → ⊥) → MarksOnly old roots new → AreConjuncts t (clause_at t roots) new
  roots_are old new there empty m id e = elim (m id e) [
    | inl before ↦ absurd (empty id.0 before)
    | inr one ↦ (All-contains (λ (id : TermId). id.0 < length t.terms) roots id there one, itself (term_at t id) (to_image (term_at t) roots id one))
  ]

  -- conjuncts of marked terms are marked
  pub conjuncts_more : (old new : List Bool) (ids : List TermId) → AreConjuncts t (clause_at t roots) old → All (IsConjunctIn t (clause_at t roots)) ids → MarksOnly old ids new → AreConjuncts t (clause_at t roots) new
  conjuncts_more old new ids before are m id e = elim (m id e) [
    | inl earlier ↦ before id earlier
    | inr one ↦ All-contains (IsConjunctIn t (clause_at t roots)) ids id are one
  ]
