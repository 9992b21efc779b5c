-- What terms pass to their subterms.
use Rattle.std.proofs.Common.{◌≡◌, true, List, [], ◌∷◌, map, All, Contains, inl, inr, sym, ap, ◌∙◌, subst}
use Rattle.std.proofs.lemmas.Bool.{and_parts}
use Rattle.std.proofs.lemmas.List.Elements.{All-head, All-tail}
use Rattle.spec_text.proofs.Members.{first, later, cases, none}
use Rattle.spec_sorts.specs.Terms.{Sort, Symbol, Head, Term, Terms, app, nil, cons, list_of, head_takes, sorts_of, sort_of, is_sorted, are_sorted}
use Rattle.spec_sorts.specs.WellSorted.{AllHeads, AllHeadsIn, IsHeadOver, IsWellSorted}
use Rattle.spec_sorts.specs.Subterms.{with_term, with_subterms, with_all_subterms, subterms_of}
use Rattle.spec_sorts.specs.Subsets.{arguments_of}
use Rattle.spec_sorts.proofs.General.{sorts_listed}
use Rattle.spec_sorts.proofs.Members.{with_one}

module _ (P : Term → Type 0) (down : (t : Term) → P t → (u : Term) → Contains (arguments_of t) u → P u) where
  -- what each of these has
  abbrev Have : List Term → Type 0
  Have ts = (t : Term) → Contains ts t → P t

  with_term_have : (seen : List Term) (t : Term) → Have seen → P t → Have (with_term seen t)
  with_term_have seen t have p u u_in = elim ((with_one seen t).no_others u u_in) [ inl e ↦ subst P e p | inr old ↦ have u old ]

  mutual
    unfolding with_subterms with_all_subterms

    below_have : (seen : List Term) (t : Term) → Have seen → P t → Have (with_subterms seen t)
    below_have seen (app h ts) have p = with_term_have (with_all_subterms seen ts) (app h ts) (all_below_have seen ts have (down (app h ts) p)) p

    all_below_have : (seen : List Term) (ts : Terms) → Have seen → Have (list_of ts) → Have (with_all_subterms seen ts)
    all_below_have seen nil have each = have
    all_below_have seen (cons t ts) have each = all_below_have (with_subterms seen t) ts (below_have seen t have (each t (first t (list_of ts)))) (λ u u_in. each u (later t (list_of ts) u u_in))

  -- where arguments have what a term has, all subterms of terms have it
  pub subterms_have : (ts : List Term) → All P ts → (t : Term) → Contains (subterms_of ts) t → P t
  subterms_have [] each u u_in = absurd (none u u_in)
  subterms_have (t ∷ ts) each u u_in = below_have (subterms_of ts) t (subterms_have ts (All-tail P t ts each)) (All-head P t ts each) u u_in

module _ (symbols : List Symbol) (ps : List Sort) where
  all_sorted : (ts : Terms) → are_sorted ps ts ≡ true → AllHeadsIn (IsHeadOver symbols) ts → (u : Term) → Contains (list_of ts) u → IsWellSorted symbols ps u
  unfolding are_sorted AllHeadsIn
  all_sorted nil s h u u_in = absurd (none u u_in)
  all_sorted (cons t ts) s h u u_in =
      let parts = and_parts (is_sorted ps t) (are_sorted ps ts) s in
      elim (cases t (list_of ts) u u_in) [
        | inl e ↦ subst (IsWellSorted symbols ps) e (record { sorted = parts.0; heads = h.0 })
        | inr rest ↦ all_sorted ts parts.1 h.1 u rest
      ]

  tail_sorted : (h : Head) (ts : Terms) → is_sorted ps (app h ts) ≡ true → are_sorted ps ts ≡ true
  unfolding is_sorted
  tail_sorted h ts e = (and_parts (head_takes ps h (sorts_of ts)) (are_sorted ps ts) e).1

  tail_heads : (h : Head) (ts : Terms) → AllHeads (IsHeadOver symbols) (app h ts) → AllHeadsIn (IsHeadOver symbols) ts
  unfolding AllHeads
  tail_heads h ts e = e.1

  -- the arguments of a well-sorted term are well sorted
  pub argument_sorted : (t : Term) → IsWellSorted symbols ps t → (u : Term) → Contains (arguments_of t) u → IsWellSorted symbols ps u
  argument_sorted (app h ts) w = all_sorted ts (tail_sorted h ts w.sorted) (tail_heads h ts w.heads)

-- the head of a well-sorted term takes its arguments
pub head_fits : (symbols : List Symbol) (ps : List Sort) (h : Head) (ts : Terms) → IsWellSorted symbols ps (app h ts) → head_takes ps h (map sort_of (list_of ts)) ≡ true
unfolding is_sorted
head_fits symbols ps h ts w = ap (head_takes ps h) (sym (sorts_listed ts)) ∙ (and_parts (head_takes ps h (sorts_of ts)) (are_sorted ps ts) w.sorted).0

-- and is over the symbols
pub head_over : (symbols : List Symbol) (ps : List Sort) (h : Head) (ts : Terms) → IsWellSorted symbols ps (app h ts) → IsHeadOver symbols h
unfolding AllHeads
head_over symbols ps h ts w = w.heads.0
