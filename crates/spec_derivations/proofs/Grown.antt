-- A problem with more known terms, and lemmas over more terms.
use Rattle.std.proofs.Common.{ℕ, List, [], ◌∷◌, ◌++◌, map, Contains, inl, inr, subst}
use Rattle.std.specs.Prelude.{flat_map}
use Rattle.std.proofs.lemmas.List.Elements.{All-weaker, Contains-append_left, Contains-append_right, Contains-append_cases}
use Rattle.spec_text.proofs.Members.{in_flat, from_flat, to_image, from_image}
use Rattle.spec_sorts.specs.Terms.{Term, pair}
use Rattle.spec_sorts.specs.Subterms.{subterms_of}
use Rattle.spec_sorts.specs.Subsets.{AreAmong}
use Rattle.spec_sorts.specs.Literals.{Clause, Literal, literals_of}
use Rattle.spec_sorts.proofs.LeastSubterms.{least_of}
use Rattle.spec_proofs.specs.Resolution.{IsWithin}
use Rattle.spec_derivations.specs.Problems.{Problem, terms_of_problem, known_terms, known_subterms}
use Rattle.spec_derivations.specs.Derivations.{Inference, «assumption», by_rule, Derivation, inference_at}
use Rattle.spec_derivations.specs.Base.{truth_facts, branch_equalities, spoken_terms, search_terms}
use Rattle.spec_derivations.specs.Orders.{order_facts, ordered_terms, whole_terms, whole_clauses_of, whole_clauses, at_first, first_clauses}
use Rattle.spec_derivations.specs.Lemmas.{IsMadeOf, given, is_true, is_false, is_equality, is_negation, IsLemma, HasLemma}
use Rattle.spec_derivations.specs.Inputs.{input_clauses, IsInput}
use Rattle.spec_derivations.specs.Spent.{IsAtomOf, subterm, with_first, with_second, forth, back, IsOverAtoms}

-- the subterms of more terms are more
pub more_subterms : (ts us : List Term) → AreAmong ts us → AreAmong (subterms_of ts) (subterms_of us)
more_subterms ts us h = (least_of ts).least (subterms_of us) (λ t i. (least_of us).there t (h t i)) (least_of us).closed

-- what terms give, more give
pub more_flat : {A : Type 0} (f : Term → List A) (ts us : List Term) → AreAmong ts us → (x : A) → Contains (flat_map f ts) x → Contains (flat_map f us) x
more_flat f ts us h x i = let w = from_flat f ts x i in in_flat f us w.0 x (h w.0 w.1) w.2

-- lists of more, one after the other
pub more_joined : {A : Type 0} (xs ys vs ws : List A) → IsWithin xs vs → IsWithin ys ws → IsWithin (xs ++ ys) (vs ++ ws)
more_joined xs ys vs ws h k x i = elim (Contains-append_cases xs ys x i) [
  | inl here ↦ Contains-append_left vs ws x (h x here)
  | inr there ↦ Contains-append_right vs ws x (k x there)
]

-- images of more
pub more_images : {A B : Type 0} (f : A → B) (xs ys : List A) → IsWithin xs ys → IsWithin (map f xs) (map f ys)
more_images f xs ys h x i = let w = from_image f xs x i in subst (Contains (map f ys)) w.2 (to_image f ys w.0 (h w.0 w.1))

-- terms that are made of some are made of more
pub made_more : (ts us : List Term) → AreAmong ts us → (u : Term) → IsMadeOf ts u → IsMadeOf us u
made_more ts us among _ (given t i) = given t (among t i)
made_more ts us among _ is_true = is_true
made_more ts us among _ is_false = is_false
made_more ts us among _ (is_equality t u a b) = is_equality t u (made_more ts us among t a) (made_more ts us among u b)
made_more ts us among _ (is_negation t a) = is_negation t (made_more ts us among t a)

-- so lemmas over some are lemmas over more
pub lemma_more : (ts us : List Term) → AreAmong ts us → (d : Derivation) (n : ℕ) (x : Inference) → IsLemma ts d n x → IsLemma us d n x
lemma_more ts us among d n («assumption» t) i = absurd i
lemma_more ts us among d n (by_rule r ps arguments c) i = (i.0, All-weaker (IsMadeOf ts) (IsMadeOf us) (made_more ts us among) c i.1, i.2)

-- and a derivation has them
pub has_lemma_more : (ts us : List Term) → AreAmong ts us → (d : Derivation) (c : List Literal) → HasLemma ts d c → HasLemma us d c
has_lemma_more ts us among d c h = record {
  number = h.number;
  there = h.there;
  since = h.since;
  begun = h.begun;
  batch = λ n from to. lemma_more ts us among d h.since (inference_at d n) (h.batch n from to);
  same = h.same;
}

-- each of some clauses of one term alone
abbrev pub alone : Term → Clause
alone t = t ∷ []

module _ (p q : Problem) (h : AreAmong (known_terms p) (known_terms q)) where
  pub subterms : AreAmong (known_subterms p) (known_subterms q)
  subterms = more_subterms (known_terms p) (known_terms q) h

  spoken : AreAmong (spoken_terms p) (spoken_terms q)
  spoken =
      let equalities = more_flat branch_equalities (known_subterms p) (known_subterms q) subterms in
      more_joined (known_terms p) (truth_facts ++ flat_map branch_equalities (known_subterms p)) (known_terms q) (truth_facts ++ flat_map branch_equalities (known_subterms q)) h
      (more_joined truth_facts (flat_map branch_equalities (known_subterms p)) truth_facts (flat_map branch_equalities (known_subterms q)) (λ x i. i) equalities)

  searched : AreAmong (search_terms p) (search_terms q)
  searched = more_subterms (spoken_terms p) (spoken_terms q) spoken

  pub whole : AreAmong (whole_terms p) (whole_terms q)
  whole = more_subterms (ordered_terms p) (ordered_terms q)
      (more_joined (spoken_terms p) (flat_map order_facts (search_terms p)) (spoken_terms q) (flat_map order_facts (search_terms q)) spoken (more_flat order_facts (search_terms p) (search_terms q) searched))

  pub atom : (t : Term) → IsAtomOf p t → IsAtomOf q t
  atom _ (subterm t i sorted not_true not_false) = subterm t (subterms t i) sorted not_true not_false
  atom _ (with_first c s t i sorted) = with_first c s t (subterms _ i) sorted
  atom _ (with_second c s t i sorted) = with_second c s t (subterms _ i) sorted
  atom _ (forth s t a sorted) = forth s t (atom (pair _ s t) a) sorted
  atom _ (back s t a sorted) = back s t (atom (pair _ s t) a) sorted

  pub over : (c : List Literal) → IsOverAtoms p c → IsOverAtoms q c
  over c = All-weaker (λ (l : Literal). IsAtomOf p l.atom) (λ (l : Literal). IsAtomOf q l.atom) (λ l. atom l.atom) c

  pub lemma : (d : Derivation) (n : ℕ) (x : Inference) → IsLemma (whole_terms p) d n x → IsLemma (whole_terms q) d n x
  lemma = lemma_more (whole_terms p) (whole_terms q) whole

  -- the clauses of more terms, with more of them alone
  more_clauses : (ts us : List Term) → AreAmong ts us → IsWithin (map alone ts ++ flat_map whole_clauses_of (whole_terms p)) (map alone us ++ flat_map whole_clauses_of (whole_terms q))
  more_clauses ts us a = more_joined (map alone ts) (flat_map whole_clauses_of (whole_terms p)) (map alone us) (flat_map whole_clauses_of (whole_terms q))
      (more_images alone ts us a) (more_flat whole_clauses_of (whole_terms p) (whole_terms q) whole)

  pub clauses : AreAmong p.asserted q.asserted → IsWithin (whole_clauses p) (whole_clauses q)
  clauses = more_clauses p.asserted q.asserted

  -- inputs stay such
  pub inputs_more : AreAmong (terms_of_problem p) (terms_of_problem q) → (d : Derivation) (c : List Literal) → IsInput p d c → IsInput q d c
  inputs_more a d c (inl i) = inl (more_images literals_of (input_clauses p) (input_clauses q) (more_clauses (terms_of_problem p) (terms_of_problem q) a) c i)
  inputs_more a d c (inr l) = inr (has_lemma_more (whole_terms p) (whole_terms q) whole d c l)

module _ (p : Problem) where
  -- the clauses with which a search begins are clauses of the search
  pub first_whole : IsWithin (first_clauses p) (whole_clauses p)
  first_whole = clauses (at_first p) p (λ t i. Contains-append_right p.interface (terms_of_problem p) t i) (λ t i. i)

  -- and those are such from which it may learn
  pub whole_inputs : IsWithin (whole_clauses p) (input_clauses p)
  whole_inputs = more_joined (map alone p.asserted) (flat_map whole_clauses_of (whole_terms p)) (map alone (terms_of_problem p)) (flat_map whole_clauses_of (whole_terms p))
      (more_images alone p.asserted (terms_of_problem p) (λ t i. Contains-append_left p.asserted p.assumed t i)) (λ c i. i)

  pub whole_is_input : (d : Derivation) (c : Clause) → Contains (whole_clauses p) c → IsInput p d (literals_of c)
  whole_is_input d c i = inl (to_image literals_of (input_clauses p) c (whole_inputs c i))
