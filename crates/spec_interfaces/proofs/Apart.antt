-- What stands apart from the equalities of elements, also where more equalities of numbers come.
use Rattle.std.proofs.Common.{◌≡◌, ◌⊎◌, true, false, List, [], ◌∷◌, ◌++◌, Contains, inl, inr, sym, ap, ◌∙◌, subst, true≢false}
use Rattle.std.specs.List.{filter}
use Rattle.std.proofs.lemmas.List.Elements.{All-contains, All-weaker, All-contains_itself, Contains-append_left, Contains-append_right, Contains-append_cases, filter-append}
use Rattle.spec_text.proofs.Members.{cases, only, in_filter}
use Rattle.spec_sorts.specs.Terms.{Number, Ite, Equal, Term, of, pair, same_sort, sort_of}
use Rattle.spec_sorts.specs.Subsets.{AreAmong, arguments_of}
use Rattle.spec_sorts.specs.Literals.{Literal}
use Rattle.spec_sorts.proofs.LeastSubterms.{least_of}
use Rattle.spec_derivations.specs.Problems.{Problem, terms_of_problem, subterms_in, known_terms, known_subterms}
use Rattle.spec_derivations.specs.Spent.{IsAtomOf, subterm, with_first, with_second, forth, back}
use Rattle.spec_derivations.proofs.Below.{subterms_have}
use Rattle.spec_derivations.proofs.Grown.{over}
use Rattle.spec_derivations.proofs.SearchTerms.{subterms_known}
use Rattle.spec_causes.specs.Shared.{IsSharedAmong, argument, value, IsSharedEquality}
use Rattle.spec_interfaces.specs.Interfaces.{IsElementEquality, IsInterfaceEquality, AreInterfaceEqualities, is_of_numbers, numbers_alone, speaking_of, StandsApart}

-- each shared term is of sort Real
pub shared_number : (ts : List Term) (u : Term) → IsSharedAmong ts u → sort_of u ≡ Number
shared_number ts _ (argument s us there u i real) = real
shared_number ts _ (value s us there some real) = real

-- so equalities of such are of numbers
pub shared_of_numbers : (ts : List Term) (u : Term) → IsSharedEquality ts u → is_of_numbers u ≡ true
shared_of_numbers ts u h = ap is_of_numbers h.is ∙ ap (same_sort Number) (shared_number ts h.left h.left_shared)

-- and those of elements are not
pub element_of_none : (ts : List Term) (u : Term) → IsElementEquality ts u → is_of_numbers u ≡ false
element_of_none ts u h = ap is_of_numbers h.is ∙ ap (same_sort Number) h.left_sort

-- none is both
pub never_both : (ts us : List Term) (u : Term) → IsSharedEquality ts u → IsElementEquality us u → ⊥
never_both ts us u a b = true≢false (sym (shared_of_numbers ts u a) ∙ element_of_none us u b)

-- nor is one of elements that has a side of sort Real
pub number_no_element : (ts : List Term) (s t : Term) → sort_of s ≡ Number → IsElementEquality ts (pair Equal s t) → ⊥
number_no_element ts s t number h = true≢false (sym (ap (same_sort Number) number) ∙ element_of_none ts (pair Equal s t) h)

module _ (p : Problem) (each : AreInterfaceEqualities p) where
  abbrev q : Problem
  q = numbers_alone p

  -- it is an equality of elements beside the terms
  abbrev IsBeside : Term → Type 0
  IsBeside u = IsElementEquality (subterms_in p) u × Contains p.interface u

  -- what is known is known without the equalities of elements, or one of these
  abbrev IsKnown : Term → Type 0
  IsKnown u = Contains (known_subterms q) u ⊎ IsBeside u

  in_known : (u : Term) → Contains (subterms_in p) u → IsKnown u
  in_known u i = inl (subterms_known q u i)

  sides_known : (t : Term) → IsElementEquality (subterms_in p) t → (u : Term) → Contains (arguments_of t) u → IsKnown u
  sides_known t h u i = elim (cases h.left (h.right ∷ []) u (subst (λ (w : Term). Contains (arguments_of w) u) h.is i)) [
    | inl e ↦ subst IsKnown e (in_known h.left h.left_in)
    | inr j ↦ subst IsKnown (only h.right u j) (in_known h.right h.right_in)
  ]

  known_down : (t : Term) → IsKnown t → (u : Term) → Contains (arguments_of t) u → IsKnown u
  known_down t (inl i) u j = inl ((least_of (known_terms q)).closed t i u j)
  known_down t (inr b) u j = sides_known t b.0 u j

  interface_known : (u : Term) → Contains p.interface u → IsKnown u
  interface_known u i = elim (All-contains (IsInterfaceEquality (subterms_in p)) p.interface u each i) [
    | inl a ↦ inl ((least_of (known_terms q)).there u (Contains-append_left q.interface (terms_of_problem p) u (in_filter is_of_numbers p.interface u i (shared_of_numbers (subterms_in p) u a))))
    | inr b ↦ inr (b, i)
  ]

  known_known : (u : Term) → Contains (known_terms p) u → IsKnown u
  known_known u i = elim (Contains-append_cases p.interface (terms_of_problem p) u i) [
    | inl k ↦ interface_known u k
    | inr k ↦ in_known u ((least_of (terms_of_problem p)).there u k)
  ]

  known_all : (u : Term) → Contains (known_subterms p) u → IsKnown u
  known_all = subterms_have IsKnown known_down (known_terms p) (All-weaker (Contains (known_terms p)) IsKnown known_known (known_terms p) (All-contains_itself (known_terms p)))

  -- a choice is none of these
  no_choice : (c s t : Term) → IsKnown (of Ite (c ∷ s ∷ t ∷ [])) → Contains (known_subterms q) (of Ite (c ∷ s ∷ t ∷ []))
  no_choice c s t (inl i) = i
  no_choice c s t (inr b) = absurd (is_equality b.0.is)
    where
      is_equality : (of Ite (c ∷ s ∷ t ∷ []) ≡ pair Equal b.0.left b.0.right) → ⊥
      is_equality e = cc

  pub atom_apart : (t : Term) → IsAtomOf p t → (IsElementEquality (subterms_in p) t → Contains p.interface t → ⊥) → IsAtomOf q t
  atom_apart _ (subterm t i sorted not_true not_false) other = elim (known_all t i) [
    | inl k ↦ subterm t k sorted not_true not_false
    | inr b ↦ absurd (other b.0 b.1)
  ]
  atom_apart _ (with_first c s t i sorted) other = with_first c s t (no_choice c s t (known_all _ i)) sorted
  atom_apart _ (with_second c s t i sorted) other = with_second c s t (no_choice c s t (known_all _ i)) sorted
  atom_apart _ (forth s t a number) other = forth s t (atom_apart (pair Equal s t) a (λ h k. number_no_element (subterms_in p) s t number h)) number
  atom_apart _ (back s t a number) other = back s t (atom_apart (pair Equal s t) a (λ h k. number_no_element (subterms_in p) s t number h)) number

-- what stands apart does so where more of them come
pub apart_more : (p : Problem) (more : List Term) (c : List Literal) → StandsApart p c → StandsApart (speaking_of p more) c
apart_more p more c = over (numbers_alone p) (numbers_alone (speaking_of p more)) among c
  where
    old : List Term
    old = filter is_of_numbers p.interface

    new : List Term
    new = filter is_of_numbers more

    all : filter is_of_numbers (p.interface ++ more) ≡ old ++ new
    all = filter-append is_of_numbers p.interface more

    among : AreAmong (known_terms (numbers_alone p)) (known_terms (numbers_alone (speaking_of p more)))
    among u i = elim (Contains-append_cases old (terms_of_problem p) u i) [
      | inl k ↦ Contains-append_left (filter is_of_numbers (p.interface ++ more)) (terms_of_problem p) u (subst (λ (us : List Term). Contains us u) (sym all) (Contains-append_left old new u k))
      | inr k ↦ Contains-append_right (filter is_of_numbers (p.interface ++ more)) (terms_of_problem p) u k
    ]
