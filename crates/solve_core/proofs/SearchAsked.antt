-- What a search is asked with equalities of shared terms, and that these are formulas that it answers for.
use Rattle.std.proofs.Common.{◌≡◌, List, [], ◌++◌, get_or, map, All, Contains, inl, inr, refl, sym, ◌∙◌, subst}
use Rattle.std.proofs.lemmas.List.Elements.{All-contains, All-map, Contains-append_left, Contains-append_right, Contains-append_cases}
use Rattle.spec_text.proofs.Members.{to_image, from_image}
use Rattle.spec_sorts.specs.Terms.{Number, Equal, Term, pair, sort_of}
use Rattle.spec_sorts.specs.Subsets.{AreAmong}
use Rattle.spec_sorts.specs.WellSorted.{IsWellSorted}
use Rattle.spec_sorts.proofs.LeastSubterms.{least_of}
use Rattle.spec_arithmetic.specs.Numbers.{IsLinear, AreLinear}
use Rattle.spec_arithmetic.proofs.Linear.{argument_linear}
use Rattle.spec_derivations.specs.Problems.{Problem, subterms_in, known_terms}
use Rattle.spec_derivations.specs.Orders.{whole_terms}
use Rattle.spec_derivations.specs.Examples.{speaking}
use Rattle.spec_derivations.proofs.Below.{subterms_have}
use Rattle.spec_derivations.proofs.SearchTerms.{known_spoken, subterms_known, subterms_spoken}
use Rattle.spec_derivations.proofs.OrderedTerms.{searched_whole}
use Rattle.spec_causes.specs.Shared.{IsSharedAmong, IsSharedEquality}
use Rattle.spec_interfaces.specs.Interfaces.{IsInterfaceEquality}
use Rattle.spec_interfaces.proofs.Apart.{shared_number}
use Rattle.term_core.specs.declared.ids.TermId.{TermId}
use Rattle.term_core.specs.Tables.{TableView, Extends, IsIn, term_at}
use Rattle.term_core.proofs.TermsExtend.{clause_at-kept, AreIn-kept}
use Rattle.proof_log.specs.Theories.{IsTermIn}
use Rattle.search_loop.specs.Answered.{AreAnswered}
use Rattle.search_loop.specs.declared.search.Search.{Search}
use Rattle.search_loop.specs.Asking.{state}
use Rattle.search_loop.specs.Rounds.{IsSearch, HoldsApart, Continues}
use Rattle.solve_core.specs.Sharing.{AreSharedOf, IsAskedOf, IsOpen, AreOpen}
use Rattle.solve_core.specs.Unspoken.{IsComparable, equality_in}
use Rattle.solve_core.specs.GoingOn.{IsAskedFor}
use Rattle.solve_core.proofs.SearchAgreed.{shared_subterm}

-- shared terms over a table that has more
pub shared_kept : (t u : TableView) → Extends t u → (ts : List Term) (ids : List TermId) → AreSharedOf t ts ids → AreSharedOf u ts ids
shared_kept t u grows ts ids h =
    let same = clause_at-kept t u grows ids h.there in
    record {
      there = AreIn-kept t u grows ids h.there;
      only = λ w i. h.only w (subst (λ us. Contains us w) same i);
      each = λ w i. subst (λ us. Contains us w) (sym same) (h.each w i);
    }

-- so a search that went on is asked of them still
pub asked_on : (t u : TableView) (ids : List TermId) (p : Problem) (x y : Search) → Continues t u x y → IsAskedOf t ids p x → IsAskedOf u ids p y
asked_on t u ids p x y on h = record { asked = on.search p [] h.asked; shared = shared_kept t u on.table (subterms_in p) ids h.shared; apart = on.apart p [] h.asked h.apart }

module _ (t : TableView) (x : Search) (p : Problem) (s : IsSearch t p [] x) where
  -- subterms are over the table's symbols
  subterm_sorted : (u : Term) → Contains (subterms_in p) u → IsWellSorted t.symbols [] u
  subterm_sorted u i =
      let n = from_image (term_at t) x.terms.items u (s.listed.each u (searched_whole p u (subterms_spoken p u i))) in
      subst (IsWellSorted t.symbols []) n.2 (All-contains (IsTermIn t) x.terms.items n.0 s.listed.there n.1).1

  -- and linear
  subterm_linear : (u : Term) → Contains (subterms_in p) u → IsLinear u
  subterm_linear u i = subterms_have IsLinear argument_linear (known_terms p) s.answered u (subterms_known p u i)

  -- so equalities of them are, too
  sides_linear : (l r : Term) → Contains (subterms_in p) l → Contains (subterms_in p) r → IsLinear (pair Equal l r)
  unfolding IsLinear AreLinear
  sides_linear l r l_in r_in = (tt, (subterm_linear l l_in, (subterm_linear r r_in, tt)))

  pub equality_linear : (e : Term) → IsInterfaceEquality (subterms_in p) e → IsLinear e
  equality_linear e (inl h) = subst IsLinear (sym h.is) (sides_linear h.left h.right (shared_subterm p h.left h.left_shared) (shared_subterm p h.right h.right_shared))
  equality_linear e (inr h) = subst IsLinear (sym h.is) (sides_linear h.left h.right h.left_in h.right_in)

  -- terms that it knows are spoken of
  pub known_whole : (u : Term) → Contains (known_terms p) u → Contains (whole_terms p) u
  known_whole u i = searched_whole p u (known_spoken p u ((least_of (known_terms p)).there u i))

  module _ (ids : List TermId) (shared : AreSharedOf t (subterms_in p) ids) where
    shared_at : (id : TermId) → Contains ids id → IsSharedAmong (subterms_in p) (term_at t id)
    shared_at id i = shared.only (term_at t id) (to_image (term_at t) ids id i)

    shared_in : (id : TermId) → Contains ids id → IsTermIn t id
    shared_in id i = (All-contains (IsIn t) ids id shared.there i, subterm_sorted (term_at t id) (shared_subterm p (term_at t id) (shared_at id i)))

    pub number_of : (id : TermId) → Contains ids id → sort_of (term_at t id) ≡ Number
    number_of id i = shared_number (subterms_in p) (term_at t id) (shared_at id i)

    -- pairs that are open have one sort
    pub open_comparable : (y : TermId × TermId) → IsOpen t ids p y → IsComparable t y
    open_comparable y o = record { one = shared_in y.0 o.one; other = shared_in y.1 o.other; sort = number_of y.0 o.one ∙ sym (number_of y.1 o.other) }

    -- and their equality is one of shared terms
    open_equality : (y : TermId × TermId) → IsOpen t ids p y → IsSharedEquality (subterms_in p) (equality_in t y)
    open_equality y o = record {
      left = term_at t y.0;
      left_shared = shared_at y.0 o.one;
      right = term_at t y.1;
      right_shared = shared_at y.1 o.other;
      different = o.different;
      is = refl;
    }

    -- so are the equalities of all of them
    pub open_equalities : (ys : List (TermId × TermId)) → AreOpen t ids p ys → All (IsSharedEquality (subterms_in p)) (map (equality_in t) ys)
    open_equalities ys o = All-map (IsSharedEquality (subterms_in p)) (equality_in t) ys (λ k d lt. open_equality (get_or ys k d) (o.0 k d lt))

    pub open_linear : (ys : List (TermId × TermId)) → AreOpen t ids p ys → AreAnswered (map (equality_in t) ys)
    open_linear ys o = All-map IsLinear (equality_in t) ys (λ k d lt. equality_linear (equality_in t (get_or ys k d)) (inl (open_equality (get_or ys k d) (o.0 k d lt))))

-- with more interface equalities, more terms are known
pub known_more : (ts interface more : List Term) → AreAmong (known_terms (speaking ts interface)) (known_terms (speaking ts (interface ++ more)))
known_more ts interface more u i = elim (Contains-append_cases interface (ts ++ []) u i) [
  | inl e ↦ Contains-append_left (interface ++ more) (ts ++ []) u (Contains-append_left interface more u e)
  | inr a ↦ Contains-append_right (interface ++ more) (ts ++ []) u a
]

-- a search goes on for the same terms
pub asked_for_on : (ts : List Term) (ids : List TermId) (t u : TableView) (x y : Search) → Continues t u x y → IsAskedFor ts ids (state t x) → IsAskedFor ts ids (state u y)
asked_for_on ts ids t u x y on a = record { interface = a.interface; asked = asked_on t u ids (speaking ts a.interface) x y on a.asked }

-- and it is asked of them with more equalities
pub asked_for_more : (ts : List Term) (ids : List TermId) (t u : TableView) (x y : Search) → Extends t u → (a : IsAskedFor ts ids (state t x)) (more : List Term)
    → IsSearch u (speaking ts (a.interface ++ more)) [] y → HoldsApart u (speaking ts (a.interface ++ more)) [] y → IsAskedFor ts ids (state u y)
asked_for_more ts ids t u x y grows a more search apart = record {
  interface = a.interface ++ more;
  asked = record {
    asked = search;
    shared = shared_kept t u grows (subterms_in (speaking ts a.interface)) ids a.asked.shared;
    apart = apart;
  };
}
