-- What comes of the forms of marked terms.
use Rattle.std.proofs.Common.{◌≡◌, ℕ, ◌+◌, ◌<◌, ◌++◌, Bool, List, [], length, get_or, Contains, inl, inr, sym, ◌∙◌, subst, arith}
use Rattle.std.specs.Prelude.{Option, Some, None, Ok}
use Rattle.std.proofs.lemmas.Bool.{cases_eq}
use Rattle.std.proofs.lemmas.List.{append-nil}
use Rattle.spec_sorts.specs.Terms.{Term, no_term}
use Rattle.spec_sorts.specs.Subterms.{subterms_of}
use Rattle.spec_arithmetic.specs.Forms.{Form}
use Rattle.spec_simplex.specs.Constraints.{Constraint, constraint_of, form_of, HasForm}
use Rattle.spec_derivations.specs.Examples.{asserting}
use Rattle.spec_derivations.specs.Problems.{subterms_in}
use Rattle.spec_causes.specs.Causes.{OverflowsForm}
use Rattle.ratio128.specs.declared.wide.Wide.{Wide}
use Rattle.ratio128.specs.Meant.{overflow}
use Rattle.term_core.specs.declared.ids.TermId.{TermId}
use Rattle.term_core.specs.Tables.{TableView, AreDifferent, term_at, clause_at, positive_literal}
use Rattle.term_clauses.specs.Marks.{IsMarked, AreMarksOf}
use Rattle.term_clauses.proofs.Marked.{in_marked, from_marked, marked_below}
use Rattle.solve_core.specs.Forms.{FailsBy, IsFirstOverflow}

-- a term that says nothing of linear arithmetic has a form, as far as it needs one
pub says_nothing : (u : Term) → (let o : Option Constraint = None in o) ≡ constraint_of (positive_literal u) → HasForm (positive_literal u)
says_nothing u e c is = absurd (none (e ∙ is))
  where
    none : (let o : Option Constraint = None in o) ≡ Some c → ⊥
    none f = cc

-- one whose constraint has a form has one
pub has_form : (u : Term) (own : Constraint) (f : Form) → Some own ≡ constraint_of (positive_literal u) → form_of own ≡ Ok f → HasForm (positive_literal u)
has_form u own f e is c says =
    let same : own ≡ c = inside (e ∙ says) in
    (f, subst (λ (d : Constraint). form_of d ≡ Ok f) same is)
  where
    inside : {x y : Constraint} → Some x ≡ Some y → x ≡ y
    inside g = cc

-- what has a form up to a mark has one up to the next, if the term of that mark has one
pub up_to : (t : TableView) (marks : List Bool) (n : ℕ) → ((k : ℕ) → k < n → IsMarked marks k → HasForm (positive_literal (get_or t.terms k no_term)))
    → (IsMarked marks n → HasForm (positive_literal (get_or t.terms n no_term))) → (k : ℕ) → k < n + 1 → IsMarked marks k → HasForm (positive_literal (get_or t.terms k no_term))
up_to t marks n before this k lt m = elim (cases_eq k n) [
  | inl e ↦ subst (λ (j : ℕ). HasForm (positive_literal (get_or t.terms j no_term))) (sym e) (this (subst (IsMarked marks) e m))
  | inr other ↦ before k (omega (arith, lt, other)) m
]

module _ (t : TableView) (roots : List TermId) (marks : List Bool) (are : AreMarksOf t roots marks) where
  -- the subterms of the problem are those of the terms
  whole : clause_at t roots ++ [] ≡ clause_at t roots
  whole = append-nil (clause_at t roots)

  -- each subterm has a form, where each marked term has
  pub each_has_form : ((k : ℕ) → IsMarked marks k → HasForm (positive_literal (get_or t.terms k no_term))) → (u : Term) → Contains (subterms_in (asserting (clause_at t roots))) u → HasForm (positive_literal u)
  each_has_form have u i =
      let n = from_marked marks t.terms u (are.each u (subst (λ (ts : List Term). Contains (subterms_of ts) u) whole i)) in
      subst (λ (w : Term). HasForm (positive_literal w)) n.2 (have n.0 n.1)

  -- and where the form of a marked term fails, and those before it have forms, that of a subterm fails first
  pub overflow_found : AreDifferent t.terms → (k : ℕ) → ((j : ℕ) → j < k → IsMarked marks j → HasForm (positive_literal (get_or t.terms j no_term))) → IsMarked marks k → (w : Wide)
      → FailsBy (get_or t.terms k no_term) w → IsFirstOverflow t (subterms_in (asserting (clause_at t roots))) w
  overflow_found differ k have m w h = record {
    id = record { 0 = k };
    there = subst (λ (ts : List Term). Contains (subterms_of ts) (get_or t.terms k no_term)) (sym whole) (are.only (get_or t.terms k no_term) (in_marked marks t.terms are.short k m));
    fails = h;
    before = λ other less i.
        let n = from_marked marks t.terms (term_at t other) (are.each (term_at t other) (subst (λ (ts : List Term). Contains (subterms_of ts) (term_at t other)) whole i)) in
        let last : k < length t.terms = omega (arith, marked_below marks k m, are.short) in
        let there : n.0 < length t.terms = omega (arith, marked_below marks n.0 n.1, are.short) in
        let same : n.0 ≡ other.0 = differ n.0 other.0 there (omega (arith, less, last)) n.2 in
        subst (λ (j : ℕ). HasForm (positive_literal (get_or t.terms j no_term))) same (have n.0 (omega (arith, same, less)) n.1);
  }

-- that overflow is one of an atom's form
pub overflows_first : (t : TableView) (ts : List Term) (w : Wide) → IsFirstOverflow t ts w → OverflowsForm ts (overflow w)
overflows_first t ts w h = record {
  atom = term_at t h.id;
  there = h.there;
  constraint = h.fails.constraint;
  says = h.fails.says;
  fault = h.fails.fault;
  fails = h.fails.fails;
  is = h.fails.is;
}
