-- What a search of a problem speaks of that knows what two others know, one of these speaks of.
use Rattle.std.proofs.Common.{List, ◌++◌, Contains, ◌⊎◌, inl, inr}
use Rattle.std.specs.Prelude.{flat_map}
use Rattle.std.proofs.lemmas.List.Elements.{Contains-append_left, Contains-append_right, Contains-append_cases}
use Rattle.spec_text.proofs.Members.{in_flat, from_flat}
use Rattle.spec_sorts.specs.Terms.{Term}
use Rattle.spec_sorts.specs.Subterms.{subterms_of}
use Rattle.spec_sorts.specs.Subsets.{AreAmong, IsClosed}
use Rattle.spec_sorts.proofs.LeastSubterms.{least_of}
use Rattle.spec_derivations.specs.Problems.{Problem, known_terms, known_subterms}
use Rattle.spec_derivations.specs.Base.{truth_facts, branch_equalities, spoken_terms, search_terms}
use Rattle.spec_derivations.specs.Orders.{order_facts, ordered_terms, whole_terms}

-- terms of two lists that have each theirs below them have theirs
closed_both : (us vs : List Term) → IsClosed us → IsClosed vs → IsClosed (us ++ vs)
closed_both us vs one other t i u j = elim (Contains-append_cases us vs t i) [
  | inl a ↦ Contains-append_left us vs u (one t a u j)
  | inr b ↦ Contains-append_right us vs u (other t b u j)
]

-- subterms of what is in one of two lists are some of one of them
joined_subterms : (ts us vs : List Term) → AreAmong ts (us ++ vs) → AreAmong (subterms_of ts) (subterms_of us ++ subterms_of vs)
joined_subterms ts us vs h = (least_of ts).least (subterms_of us ++ subterms_of vs)
    (λ t i. elim (Contains-append_cases us vs t (h t i)) [
      | inl a ↦ Contains-append_left (subterms_of us) (subterms_of vs) t ((least_of us).there t a)
      | inr b ↦ Contains-append_right (subterms_of us) (subterms_of vs) t ((least_of vs).there t b)
    ])
    (closed_both (subterms_of us) (subterms_of vs) (least_of us).closed (least_of vs).closed)

-- what terms give that are in one of two lists, one of these gives
joined_flat : (f : Term → List Term) (ts us vs : List Term) → AreAmong ts (us ++ vs) → AreAmong (flat_map f ts) (flat_map f us ++ flat_map f vs)
joined_flat f ts us vs h t i =
    let w = from_flat f ts t i in
    elim (Contains-append_cases us vs w.0 (h w.0 w.1)) [
      | inl a ↦ Contains-append_left (flat_map f us) (flat_map f vs) t (in_flat f us w.0 t a w.2)
      | inr b ↦ Contains-append_right (flat_map f us) (flat_map f vs) t (in_flat f vs w.0 t b w.2)
    ]

-- so it is of terms one after the other
joined_after : (ts us vs xs ys zs : List Term) → AreAmong ts (us ++ vs) → AreAmong xs (ys ++ zs) → AreAmong (ts ++ xs) ((us ++ ys) ++ (vs ++ zs))
joined_after ts us vs xs ys zs h k t i = elim (Contains-append_cases ts xs t i) [
  | inl a ↦ elim (Contains-append_cases us vs t (h t a)) [
    | inl b ↦ Contains-append_left (us ++ ys) (vs ++ zs) t (Contains-append_left us ys t b)
    | inr b ↦ Contains-append_right (us ++ ys) (vs ++ zs) t (Contains-append_left vs zs t b)
  ]
  | inr a ↦ elim (Contains-append_cases ys zs t (k t a)) [
    | inl b ↦ Contains-append_left (us ++ ys) (vs ++ zs) t (Contains-append_right us ys t b)
    | inr b ↦ Contains-append_right (us ++ ys) (vs ++ zs) t (Contains-append_right vs zs t b)
  ]
]

module _ (p q r : Problem) (h : AreAmong (known_terms p) (known_terms q ++ known_terms r)) where
  subterms : AreAmong (known_subterms p) (known_subterms q ++ known_subterms r)
  subterms = joined_subterms (known_terms p) (known_terms q) (known_terms r) h

  spoken : AreAmong (spoken_terms p) (spoken_terms q ++ spoken_terms r)
  spoken =
      let branches = λ (s : Problem). flat_map branch_equalities (known_subterms s) in
      joined_after (known_terms p) (known_terms q) (known_terms r) (truth_facts ++ branches p) (truth_facts ++ branches q) (truth_facts ++ branches r) h
      (joined_after truth_facts truth_facts truth_facts (branches p) (branches q) (branches r) (λ t i. Contains-append_left truth_facts truth_facts t i)
      (joined_flat branch_equalities (known_subterms p) (known_subterms q) (known_subterms r) subterms))

  searched : AreAmong (search_terms p) (search_terms q ++ search_terms r)
  searched = joined_subterms (spoken_terms p) (spoken_terms q) (spoken_terms r) spoken

  joined : AreAmong (whole_terms p) (whole_terms q ++ whole_terms r)
  joined =
      let facts = λ (s : Problem). flat_map order_facts (search_terms s) in
      joined_subterms (ordered_terms p) (ordered_terms q) (ordered_terms r)
      (joined_after (spoken_terms p) (spoken_terms q) (spoken_terms r) (facts p) (facts q) (facts r) spoken
      (joined_flat order_facts (search_terms p) (search_terms q) (search_terms r) searched))

  -- a term of which the search speaks is one of which one of the others does
  pub whole_joined : (t : Term) → Contains (whole_terms p) t → Contains (whole_terms q) t ⊎ Contains (whole_terms r) t
  whole_joined t i = Contains-append_cases (whole_terms q) (whole_terms r) t (joined t i)
