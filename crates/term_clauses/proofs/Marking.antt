-- Marking the subterms of terms, from the greatest number down.
use Rattle.std.proofs.Common.{◌≡◌, ℕ, zero, suc, ◌<◌, ◌≤◌, inl, inr, Bool, List, length, get_or, All, Contains, sym, ap, ◌∙◌, subst, arith}
use Rattle.std.proofs.lemmas.Bool.{cases_eq}
use Rattle.std.proofs.lemmas.List.Elements.{All-contains}
use Rattle.spec_text.proofs.Members.{to_image, from_image}
use Rattle.spec_sorts.specs.Terms.{Term, no_term}
use Rattle.spec_sorts.specs.Subterms.{subterms_of}
use Rattle.spec_sorts.specs.Subsets.{arguments_of, AreAmong, IsClosed}
use Rattle.term_core.specs.declared.ids.TermId.{TermId}
use Rattle.term_core.specs.Tables.{TableView, AreDifferent, term_at, clause_at, Shape, shape_term}
use Rattle.term_core.proofs.TermsClosed.{argument_of, argument_in}
use Rattle.term_clauses.specs.Marks.{IsMarked, MarksTerms, marked, AreMarksOf}
use Rattle.term_clauses.proofs.Marked.{marked_below, in_marked, HasMarked, from_marked, marked_once}

-- The terms are marked, and with each marked number from `from` on the arguments of its term.
pub record IsMarkedFrom (t : TableView) (roots : List TermId) (from : ℕ) (marks : List Bool) : Type 0 where
  pub short : length marks ≤ length t.terms
  pub starts : (id : TermId) → Contains roots id → IsMarked marks id.0
  pub sound : (k : ℕ) → IsMarked marks k → Contains (subterms_of (clause_at t roots)) (get_or t.terms k no_term)
  pub closed : (k : ℕ) → from ≤ k → IsMarked marks k → (u : Term) → Contains (arguments_of (get_or t.terms k no_term)) u → HasMarked t.terms marks u

-- with more marks it is still marked
keeps : (ts : List Term) (old new : List Bool) (u : Term) → ((k : ℕ) → IsMarked old k → IsMarked new k) → HasMarked ts old u → HasMarked ts new u
keeps ts old new u kept h = (h.0, kept h.0 h.1, h.2)

module _ (t : TableView) (roots : List TermId) (there : AreAmong (clause_at t roots) (subterms_of (clause_at t roots))) (closed : IsClosed (subterms_of (clause_at t roots))) where
  pub marks_start : (old new : List Bool) → length old ≤ length t.terms → ((k : ℕ) → IsMarked old k → ⊥) → MarksTerms old roots new → IsMarkedFrom t roots (length new) new
  marks_start old new short empty m = record {
    short = omega (arith, m.length);
    starts = m.there;
    sound = λ k e. elim (m.no_others k e) [
      | inl h ↦ absurd (empty k h)
      | inr h ↦ there (get_or t.terms k no_term) (subst (λ j. Contains (clause_at t roots) (get_or t.terms j no_term)) h.2 (to_image (term_at t) roots h.0 h.1))
    ];
    closed = λ k le e. let lt = marked_below new k e in absurd (omega arith);
  }

  -- the arguments of one marked term more
  pub marks_more : (n : ℕ) (old new : List Bool) (s : Shape) → IsMarkedFrom t roots (suc n) old → IsMarked old n → get_or t.terms n no_term ≡ shape_term t s → All (λ (id : TermId). id.0 < n) s.arguments → MarksTerms old s.arguments new → IsMarkedFrom t roots n new
  marks_more n old new s h here means below m = record {
    short = omega (arith, m.length, h.short);
    starts = λ id id_in. m.kept id.0 (h.starts id id_in);
    sound = λ k e. elim (m.no_others k e) [
      | inl e ↦ h.sound k e
      | inr x ↦
          let argument : Contains (arguments_of (get_or t.terms n no_term)) (term_at t x.0) = subst (λ (w : Term). Contains (arguments_of w) (term_at t x.0)) (sym means) (argument_in t s x.0 x.1) in
          subst (λ j. Contains (subterms_of (clause_at t roots)) (get_or t.terms j no_term)) x.2 (closed (get_or t.terms n no_term) (h.sound n here) (term_at t x.0) argument)
    ];
    closed = λ k le e u u_in. elim (m.no_others k e) [
      | inr x ↦ let lt : x.0.0 < n = All-contains (λ (id : TermId). id.0 < n) s.arguments x.0 below x.1 in absurd (omega (arith, x.2))
      | inl e ↦ elim (cases_eq k n) [
        | inr differ ↦ keeps t.terms old new u m.kept (h.closed k (grind (arith, le, differ)) e u u_in)
        | inl same ↦
            let x = argument_of t s u (subst (λ (w : Term). Contains (arguments_of w) u) (ap (λ j. get_or t.terms j no_term) same ∙ means) u_in) in
            (x.0.0, m.there x.0 x.1, x.2)
      ]
    ];
  }

  -- a number that is not marked
  pub marks_skip : (n : ℕ) (marks : List Bool) → IsMarkedFrom t roots (suc n) marks → (IsMarked marks n → ⊥) → IsMarkedFrom t roots n marks
  marks_skip n marks h free = record {
    short = h.short;
    starts = h.starts;
    sound = h.sound;
    closed = λ k le e. elim (cases_eq k n) [
      | inl same ↦ absurd (free (subst (IsMarked marks) same e))
      | inr differ ↦ h.closed k (grind (arith, le, differ)) e
    ];
  }

  pub marks_end : (marks : List Bool) → IsMarkedFrom t roots zero marks → AreDifferent t.terms → ((us : List Term) → AreAmong (clause_at t roots) us → IsClosed us → AreAmong (subterms_of (clause_at t roots)) us) → AreMarksOf t roots marks
  marks_end marks h apart least =
      let us = marked marks t.terms in
      let in_us : (u : Term) → HasMarked t.terms marks u → Contains us u = λ u x. subst (Contains us) x.2 (in_marked marks t.terms h.short x.0 x.1) in
      let each : AreAmong (subterms_of (clause_at t roots)) us = least us
      (λ u u_in. let x = from_image (term_at t) roots u u_in in in_us u (x.0.0, h.starts x.0 x.1, x.2))
      (λ u u_in w w_in. let x = from_marked marks t.terms u u_in in in_us w (h.closed x.0 (omega arith) x.1 w (subst (λ (y : Term). Contains (arguments_of y) w) (sym x.2) w_in))) in
      record {
        short = h.short;
        each = each;
        only = λ u u_in. let x = from_marked marks t.terms u u_in in subst (Contains (subterms_of (clause_at t roots))) x.2 (h.sound x.0 x.1);
        once = marked_once marks t.terms h.short apart;
      }
