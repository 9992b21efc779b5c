-- The subterms of terms are the least list that holds the terms and is closed.
use Rattle.std.proofs.Common.{◌≤◌, inl, inr, List, [], ◌∷◌, length, Contains, sym, subst}
use Rattle.std.specs.List.{IsDistinct}
use Rattle.std.proofs.lemmas.Map.Made.{is_member-Decides, length-le_from_is_member, AllPairs-from_IsDistinct, IsDistinct-from_AllPairs}
use Rattle.spec_text.proofs.Members.{first, later, cases, none}
use Rattle.spec_sorts.specs.Terms.{Term, Terms, app, nil, cons, list_of, same_term}
use Rattle.spec_sorts.specs.Subterms.{with_term, with_subterms, with_all_subterms, subterms_of}
use Rattle.spec_sorts.specs.Subsets.{arguments_of, AreAmong, IsClosed, AreOnce}
use Rattle.spec_sorts.proofs.SameTerms.{terms_decide, terms_equivalence}
use Rattle.spec_sorts.proofs.Members.{IsWith, with_one}

-- What a list has after the subterms of terms came into it.
record Grows (seen new ts : List Term) : Type 0 where
  kept : AreAmong seen new
  there : AreAmong ts new
  closed : IsClosed seen → IsClosed new
  distinct : IsDistinct same_term seen → IsDistinct same_term new
  least : (us : List Term) → AreAmong seen us → AreAmong ts us → IsClosed us → AreAmong new us

grows_none : (seen : List Term) → Grows seen seen []
grows_none seen = record {
  kept = λ t c. c;
  there = λ t c. absurd (none t c);
  closed = λ h. h;
  distinct = λ h. h;
  least = λ us old new closed. old;
}

-- a term comes in after its arguments' subterms
grows_one : (seen new : List Term) (t : Term) → Grows seen new (arguments_of t) → Grows seen (with_term new t) (t ∷ [])
grows_one seen new t g =
    let w : IsWith new (with_term new t) t = with_one new t in
    record {
      kept = λ u c. w.kept u (g.kept u c);
      there = λ u c. elim (cases t [] u c) [ inl e ↦ subst (Contains (with_term new t)) e w.there | inr c2 ↦ absurd (none u c2) ];
      closed = λ h u c v a. elim (w.no_others u c) [
        | inl e ↦ w.kept v (g.there v (subst (λ x. Contains (arguments_of x) v) (sym e) a))
        | inr c2 ↦ w.kept v (g.closed h u c2 v a)
      ];
      distinct = λ h. w.distinct (g.distinct h);
      least = λ us old ts closed u c.
          let t_in : Contains us t = ts t (first t []) in
          elim (w.no_others u c) [
            | inl e ↦ subst (Contains us) e t_in
            | inr c2 ↦ g.least us old (closed t t_in) closed u c2
          ];
    }

-- subterms of some, then of others
grows_both : (seen mid new : List Term) (t : Term) (ts : List Term) → Grows seen mid (t ∷ []) → Grows mid new ts → Grows seen new (t ∷ ts)
grows_both seen mid new t ts g h = record {
  kept = λ u c. h.kept u (g.kept u c);
  there = λ u c. elim (cases t ts u c) [ inl e ↦ h.kept u (g.there u (subst (Contains (t ∷ [])) e (first t []))) | inr c2 ↦ h.there u c2 ];
  closed = λ k. h.closed (g.closed k);
  distinct = λ k. h.distinct (g.distinct k);
  least = λ us old all closed.
      h.least us (g.least us old (λ u c. all u (elim (cases t [] u c) [ inl e ↦ subst (Contains (t ∷ ts)) e (first t ts) | inr c2 ↦ absurd (none u c2) ])) closed)
      (λ u c. all u (later t ts u c)) closed;
}

mutual
  unfolding with_subterms with_all_subterms

  grows_term : (seen : List Term) (t : Term) → Grows seen (with_subterms seen t) (t ∷ [])
  grows_term seen (app h ts) = grows_one seen (with_all_subterms seen ts) (app h ts) (grows_list seen ts)

  grows_list : (seen : List Term) (ts : Terms) → Grows seen (with_all_subterms seen ts) (list_of ts)
  grows_list seen nil = grows_none seen
  grows_list seen (cons t ts) = grows_both seen (with_subterms seen t) (with_all_subterms (with_subterms seen t) ts) t (list_of ts) (grows_term seen t) (grows_list (with_subterms seen t) ts)

-- What the subterms of terms have.
pub record AreLeast (ts new : List Term) : Type 0 where
  pub there : AreAmong ts new
  pub closed : IsClosed new
  pub distinct : IsDistinct same_term new
  pub least : (us : List Term) → AreAmong ts us → IsClosed us → AreAmong new us

pub least_of : (ts : List Term) → AreLeast ts (subterms_of ts)
unfolding IsDistinct
least_of [] = record {
  there = λ t c. c;
  closed = λ t c. absurd (none t c);
  distinct = tt;
  least = λ us all closed. all;
}
least_of (t ∷ ts) =
    let r = least_of ts in
    let g = grows_term (subterms_of ts) t in
    record {
      there = λ u c. elim (cases t ts u c) [ inl e ↦ g.there u (subst (Contains (t ∷ [])) e (first t [])) | inr c2 ↦ g.kept u (r.there u c2) ];
      closed = g.closed r.closed;
      distinct = g.distinct r.distinct;
      least = λ us all closed.
          g.least us (r.least us (λ u c. all u (later t ts u c)) closed)
          (λ u c. elim (cases t [] u c) [ inl e ↦ subst (Contains us) e (all t (first t ts)) | inr c2 ↦ absurd (none u c2) ]) closed;
    }

pub once_of : (ts : List Term) → AreOnce (subterms_of ts)
once_of ts = AllPairs-from_IsDistinct terms_decide (subterms_of ts) (least_of ts).distinct

-- different terms of a list are no more than its length
no_longer : (us vs : List Term) → IsDistinct same_term us → AreAmong us vs → length us ≤ length vs
no_longer us vs distinct among =
    length-le_from_is_member terms_equivalence us vs distinct (λ t m. (is_member-Decides terms_decide vs t).1 (among t ((is_member-Decides terms_decide us t).0 m)))

pub no_fewer : (ts us : List Term) → AreOnce us → AreAmong us (subterms_of ts) → length us ≤ length (subterms_of ts)
no_fewer ts us once among = no_longer us (subterms_of ts) (IsDistinct-from_AllPairs terms_decide us once) among

pub no_more : (ts us : List Term) → AreAmong ts us → IsClosed us → length (subterms_of ts) ≤ length us
no_more ts us all closed = no_longer (subterms_of ts) us (least_of ts).distinct ((least_of ts).least us all closed)
