-- That learned clauses speak of no equality of elements that is beside a check's terms.
use Rattle.std.proofs.Common.{◌≡◌, ◌⊎◌, true, List, [], ◌∷◌, All, Contains, inl, inr, sym, ◌∙◌, subst, true≢false}
use Rattle.std.proofs.lemmas.List.Elements.{All-contains, All-weaker, All-contains_itself, All-filter, filter_passes, Contains-append_cases}
use Rattle.spec_text.proofs.Members.{cases, only}
use Rattle.spec_sorts.specs.Terms.{Ite, Equal, AtMost, Apply, Term, app, of, pair}
use Rattle.spec_sorts.specs.Subsets.{arguments_of}
use Rattle.spec_sorts.specs.Literals.{Literal}
use Rattle.spec_sorts.proofs.LeastSubterms.{least_of}
use Rattle.spec_commands.specs.Checks.{Check}
use Rattle.spec_derivations.specs.Problems.{Problem, terms_of_problem, subterms_in, known_terms, known_subterms, problem_of}
use Rattle.spec_derivations.specs.Spent.{IsAtomOf, subterm, with_first, with_second, forth, back}
use Rattle.spec_derivations.proofs.Below.{subterms_have}
use Rattle.spec_causes.specs.Shared.{IsSharedAmong, argument, value, IsSharedEquality}
use Rattle.spec_interfaces.specs.Interfaces.{IsElementEquality, IsInterfaceEquality, AreInterfaceEqualities, is_of_numbers, numbers_alone, StandsApart}
use Rattle.spec_interfaces.proofs.Apart.{element_of_none, never_both}
use Rattle.spec_sessions.specs.Evidence.{IsProblemOf, SpeaksOf}

module _ (p : Problem) (each : AreInterfaceEqualities p) where
  -- the problem without equalities of elements
  abbrev q : Problem
  q = numbers_alone p

  -- and without any
  abbrev without : Problem
  without = record { asserted = p.asserted; assumed = p.assumed; interface = [] }

  -- what is known without those of elements is below the terms, or an equality of shared numbers
  abbrev IsKnown : Term → Type 0
  IsKnown u = Contains (subterms_in p) u ⊎ IsSharedEquality (subterms_in p) u

  shared_below : (u : Term) → IsSharedAmong (subterms_in p) u → Contains (subterms_in p) u
  shared_below _ (argument s us there u i real) = (least_of (terms_of_problem p)).closed (app (Apply s) us) there u i
  shared_below _ (value s us there some real) = there

  sides_known : (t : Term) → IsSharedEquality (subterms_in p) t → (u : Term) → Contains (arguments_of t) u → IsKnown u
  sides_known t h u i = elim (cases h.left (h.right ∷ []) u (subst (λ (w : Term). Contains (arguments_of w) u) h.is i)) [
    | inl e ↦ inl (subst (Contains (subterms_in p)) e (shared_below h.left h.left_shared))
    | inr j ↦ inl (subst (Contains (subterms_in p)) (only h.right u j) (shared_below h.right h.right_shared))
  ]

  known_down : (t : Term) → IsKnown t → (u : Term) → Contains (arguments_of t) u → IsKnown u
  known_down t (inl i) u j = inl ((least_of (terms_of_problem p)).closed t i u j)
  known_down t (inr h) u j = sides_known t h u j

  interface_known : (u : Term) → Contains q.interface u → IsKnown u
  interface_known u i = elim (All-contains (IsInterfaceEquality (subterms_in p)) q.interface u (All-filter is_of_numbers (IsInterfaceEquality (subterms_in p)) p.interface each) i) [
    | inl a ↦ inr a
    | inr b ↦ absurd (true≢false (sym (All-contains (λ v. is_of_numbers v ≡ true) q.interface u (filter_passes is_of_numbers p.interface) i) ∙ element_of_none (subterms_in p) u b))
  ]

  terms_known : (u : Term) → Contains (known_terms q) u → IsKnown u
  terms_known u i = elim (Contains-append_cases q.interface (terms_of_problem p) u i) [
    | inl k ↦ interface_known u k
    | inr k ↦ inl ((least_of (terms_of_problem p)).there u k)
  ]

  known : (u : Term) → Contains (known_subterms q) u → IsKnown u
  known = subterms_have IsKnown known_down (known_terms q) (All-weaker (Contains (known_terms q)) IsKnown terms_known (known_terms q) (All-contains_itself (known_terms q)))

  -- a choice is below the terms
  choice_below : (c s t : Term) → Contains (known_subterms q) (of Ite (c ∷ s ∷ t ∷ [])) → Contains (subterms_in p) (of Ite (c ∷ s ∷ t ∷ []))
  choice_below c s t i = elim (known (of Ite (c ∷ s ∷ t ∷ [])) i) [
    | inl k ↦ k
    | inr h ↦ absurd (no_equality h.left h.right h.is)
  ]
    where
      no_equality : (a b : Term) → of Ite (c ∷ s ∷ t ∷ []) ≡ pair Equal a b → ⊥
      no_equality a b e = cc

  -- nor is an order an equality
  no_order : (s t : Term) → IsElementEquality (subterms_in p) (pair AtMost s t) → ⊥
  no_order s t h = no_equality h.left h.right h.is
    where
      no_equality : (a b : Term) → pair AtMost s t ≡ pair Equal a b → ⊥
      no_equality a b e = cc

  -- so an atom which is an equality of elements is one of the terms
  atom_within : (t : Term) → IsAtomOf q t → IsElementEquality (subterms_in p) t → IsAtomOf without t
  atom_within _ (subterm t i sorted not_true not_false) h = elim (known t i) [
    | inl k ↦ subterm t k sorted not_true not_false
    | inr a ↦ absurd (never_both (subterms_in p) (subterms_in p) t a h)
  ]
  atom_within _ (with_first c s t i sorted) h = with_first c s t (choice_below c s t i) sorted
  atom_within _ (with_second c s t i sorted) h = with_second c s t (choice_below c s t i) sorted
  atom_within _ (forth s t a number) h = absurd (no_order s t h)
  atom_within _ (back s t a number) h = absurd (no_order t s h)

-- clauses that stand apart speak so of the check
pub speak_of : (c : Check) (p : Problem) → IsProblemOf c p → (learned : List (List Literal)) → All (StandsApart p) learned → All (SpeaksOf c) learned
speak_of c p h learned each =
    let here : All (StandsApart (problem_of c h.interface)) learned = subst (λ (s : Problem). All (StandsApart s) learned) h.is each in
    All-weaker (StandsApart (problem_of c h.interface)) (SpeaksOf c) (λ clause over l i.
    atom_within (problem_of c h.interface) h.equalities l.atom (All-contains (λ (m : Literal). IsAtomOf (numbers_alone (problem_of c h.interface)) m.atom) clause l over i)) learned here
