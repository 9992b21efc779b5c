-- Which variables wait to be decided: as they come, are taken, are decided, and are put back.
use Rattle.std.proofs.Common.{◌≡◌, ℕ, ◌+◌, ◌-◌, ◌<◌, ◌≤◌, Bool, true, false, List, [], ◌∷◌, ◌++◌, length, get_or, set, take, Contains, ◌⊎◌, inl, inr, refl, sym, ap, ◌∙◌, subst, arith}
use Rattle.std.specs.Prelude.{Some}
use Rattle.std.proofs.lemmas.Bool.{cases_eq, cases_lt, false≢true}
use Rattle.std.proofs.lemmas.List.{get_or-set_same, get_or-set_other, get_or_past, get_or_append_left, get_or_push, length_push, length-set, take_more}
use Rattle.std.proofs.lemmas.List.Elements.{Contains-push, Contains-push_cases, Contains-append_left}
use Rattle.std.proofs.lemmas.List.Sums.{sum_by-set}
use Rattle.spec_text.proofs.Members.{none}
use Rattle.term_core.specs.declared.ids.TermId.{TermId}
use Rattle.term_core.specs.declared.ids.Lit.{Lit}
use Rattle.clause_literals.specs.Literals.{lit_complement}
use Rattle.clause_literals.specs.Statuses.{IsSatisfied, PropagatesNothing}
use Rattle.sat_trail.specs.Trails.{TrailView, no_lit, HasValue, IsCutTo}
use Rattle.clause_store.specs.Propagating.{IsPropagated}
use Rattle.conflict_learn.proofs.Places.{early_place}
use Rattle.variable_order.specs.Orders.{IsIn, IsEmpty, IsRemoved}
use Rattle.search_loop.specs.Waiting.{IsAssigned, AreAssigned, AreWaiting, one_if, count}
use Rattle.search_loop.specs.Search.{AreSatisfied, AreCovered}
use Rattle.search_loop.proofs.SearchLists.{in_front}
use Rattle.search_loop.proofs.SearchValues.{one_of_two}

-- what waits is a variable
pub waits_below : (waiting : List Bool) (v : TermId) → IsIn waiting v → v.0 < length waiting
waits_below waiting v i = elim (cases_lt v.0 (length waiting)) [
  | inl lt ↦ lt
  | inr le ↦ absurd (false≢true (sym (get_or_past waiting v.0 false le) ∙ i))
]

-- one variable more waits
module _ (waiting : List Bool) (v : TermId) (lt : v.0 < length waiting) where
  now_in : IsIn (set waiting v.0 true) v
  now_in = get_or-set_same waiting v.0 true false lt

  still_in : (u : TermId) → IsIn waiting u → IsIn (set waiting v.0 true) u
  still_in u i = elim (cases_eq u.0 v.0) [
    | inl e ↦ ap (λ n. get_or (set waiting v.0 true) n false) e ∙ now_in
    | inr ne ↦ get_or-set_other waiting v.0 u.0 true false ne ∙ i
  ]

  was_in : (u : TermId) → IsIn (set waiting v.0 true) u → IsIn waiting u ⊎ (v ≡ u)
  was_in u i = elim (cases_eq u.0 v.0) [
    | inl e ↦ inr (λ j. record { 0 = sym e j })
    | inr ne ↦ inl (sym (get_or-set_other waiting v.0 u.0 true false ne) ∙ i)
  ]

-- one waits no more
module _ (waiting new : List Bool) (v : TermId) (t : IsRemoved waiting v new) where
  in_before : (u : TermId) → IsIn new u → IsIn waiting u
  in_before u i = elim (cases_eq u.0 v.0) [
    | inl e ↦ ap (λ n. get_or waiting n false) e ∙ t.was_in
    | inr ne ↦ sym (get_or-set_other waiting v.0 u.0 false false ne) ∙ ap (λ ws. get_or ws u.0 false) (sym t.members) ∙ i
  ]

  in_after : (u : TermId) → IsIn waiting u → IsIn new u ⊎ (v ≡ u)
  in_after u i = elim (cases_eq u.0 v.0) [
    | inl e ↦ inr (λ j. record { 0 = sym e j })
    | inr ne ↦ inl (ap (λ ws. get_or ws u.0 false) t.members ∙ get_or-set_other waiting v.0 u.0 false false ne ∙ i)
  ]

  pub taken_size : length new ≡ length waiting
  taken_size = ap length t.members ∙ length-set waiting v.0 false

  -- so fewer wait
  pub fewer : count new < count waiting
  fewer = omega (arith, ap count t.members, sum_by-set one_if waiting v.0 false false (waits_below waiting v t.was_in), ap one_if t.was_in)

  module _ (atoms : List TermId) (held : List Lit) (h : AreWaiting atoms held waiting) where
    -- a literal of it holds
    pub taken_assigned : IsAssigned held v → AreWaiting atoms held new
    taken_assigned a = record {
      each = λ u m. elim (h.each u m) [
        | inl i ↦ elim (in_after u i) [ inl j ↦ inl j | inr e ↦ inr (subst (IsAssigned held) e a) ]
        | inr b ↦ inr b
      ];
      only = λ u i. h.only u (in_before u i);
    }

    -- or it is decided
    pub taken_chosen : (l : Lit) → l.term ≡ v → AreWaiting atoms (held ++ l ∷ []) new
    taken_chosen l is = record {
      each = λ u m. elim (h.each u m) [
        | inl i ↦ elim (in_after u i) [ inl j ↦ inl j | inr e ↦ inr (l, Contains-push held l, is ∙ e) ]
        | inr b ↦ inr (b.0, Contains-append_left held (l ∷ []) b.0 b.1, b.2)
      ];
      only = λ u i. h.only u (in_before u i);
    }

-- where none waits, each atom has a value
pub all_assigned : (atoms : List TermId) (held : List Lit) (waiting : List Bool) → AreWaiting atoms held waiting → IsEmpty waiting → AreAssigned atoms held
all_assigned atoms held waiting h empty v m = elim (h.each v m) [ inl i ↦ absurd (empty v i) | inr a ↦ a ]

-- and of each clause over atoms a literal holds, as propagation is quiet
pub satisfied_by : (atoms : List TermId) (clauses : List (List Lit)) (held : List Lit) → AreCovered atoms clauses → IsPropagated clauses held → AreAssigned atoms held → AreSatisfied clauses held
satisfied_by atoms clauses held covered quiet all c i = go (quiet c i)
  where
    go : PropagatesNothing held c → IsSatisfied held c
    go (inl s) = s
    go (inr u) =
        let a = all u.one.term (covered c u.one i u.has_one) in
        let b : Contains held (record { term = u.one.term; positive = a.0.positive }) = subst (Contains held) (λ j. record { term = a.2 j; positive = a.0.positive }) a.1 in
        elim (one_of_two u.one a.0.positive (Contains held) b) [
          | inl holds ↦ record { literal = u.one; there = u.has_one; holds = holds }
          | inr fails ↦ absurd (u.one_open fails)
        ]

-- a value tells that a literal of the variable holds
pub assigned_some : (held : List Lit) (l : Lit) (sign : Bool) → HasValue held l (Some sign) → IsAssigned held l.term
assigned_some held l true h = (l, h, refl)
assigned_some held l false h = (lit_complement l, h, refl)

-- literals more hold
pub waiting_held : (atoms : List TermId) (front held : List Lit) (waiting : List Bool) → ((l : Lit) → Contains front l → Contains held l) → AreWaiting atoms front waiting → AreWaiting atoms held waiting
waiting_held atoms front held waiting within h = record {
  each = λ v m. elim (h.each v m) [ inl i ↦ inl i | inr a ↦ inr (a.0, within a.0 a.1, a.2) ];
  only = h.only;
}

-- the last literal is taken off, and its variable waits
pub waiting_back : (atoms : List TermId) (held : List Lit) (k : ℕ) (l : Lit) (waiting : List Bool) → k < length held → l ≡ get_or held k no_lit → l.term.0 < length waiting → Contains atoms l.term
    → AreWaiting atoms (take (k + 1) held) waiting → AreWaiting atoms (take k held) (set waiting l.term.0 true)
waiting_back atoms held k l waiting lt is known m h = record {
  each = λ v n. elim (h.each v n) [
    | inl i ↦ inl (still_in waiting l.term known v i)
    | inr a ↦ elim (Contains-push_cases (take k held) (get_or held k no_lit) a.0 (subst (λ (xs : List Lit). Contains xs a.0) (take_more held k no_lit lt) a.1)) [
      | inl early ↦ inr (a.0, early, a.2)
      | inr last ↦ inl (subst (IsIn (set waiting l.term.0 true)) (ap (λ (x : Lit). x.term) (is ∙ last) ∙ a.2) (now_in waiting l.term known))
    ]
  ];
  only = λ v i. elim (was_in waiting l.term known v i) [ inl j ↦ h.only v j | inr e ↦ subst (Contains atoms) e m ];
}

-- all literals of higher levels are taken off
pub waiting_cut : (atoms : List TermId) (v after : TrailView) (n place : ℕ) (waiting : List Bool) → IsCutTo v n after → place ≤ length v.literals → (place ≡ 0) ⊎ (get_or v.levels (place - 1) 0 ≤ n) → AreWaiting atoms (take place v.literals) waiting
    → AreWaiting atoms after.literals waiting
waiting_cut atoms v after n place waiting cut within ends = waiting_held atoms (take place v.literals) after.literals waiting (λ l i.
    let e = early_place v.literals place l within i in
    subst (λ (xs : List Lit). Contains xs l) (sym cut.literals) (in_front v.literals e.0 cut.kept l (omega (arith, e.1, le)) e.2 cut.within e.3))
  where
    le : place ≤ cut.kept
    le = elim (cases_lt cut.kept place) [
      | inl lt ↦ elim ends [
        | inl zero ↦ absurd (omega (arith, zero, lt))
        | inr low ↦ let up = cut.above (place - 1) (omega (arith, lt)) (omega (arith, lt, within)) in absurd (omega (arith, up, low))
      ]
      | inr ge ↦ ge
    ]

-- a variable more that does not wait
module _ (waiting : List Bool) where
  in_longer : (v : TermId) → IsIn waiting v → IsIn (waiting ++ false ∷ []) v
  in_longer v i = get_or_append_left waiting (false ∷ []) false v.0 (waits_below waiting v i) ∙ i

  in_shorter : (v : TermId) → IsIn (waiting ++ false ∷ []) v → IsIn waiting v
  in_shorter v i = elim (cases_lt v.0 (length waiting)) [
    | inl lt ↦ sym (get_or_append_left waiting (false ∷ []) false v.0 lt) ∙ i
    | inr le ↦ elim (cases_eq v.0 (length waiting)) [
      | inl e ↦ absurd (false≢true (sym (get_or_push waiting false false v.0 (sym e)) ∙ i))
      | inr ne ↦ absurd (false≢true (sym (get_or_past (waiting ++ false ∷ []) v.0 false (omega (arith, length_push waiting false, le, ne))) ∙ i))
    ]
  ]

  pub waiting_longer : (atoms : List TermId) (held : List Lit) → AreWaiting atoms held waiting → AreWaiting atoms held (waiting ++ false ∷ [])
  waiting_longer atoms held h = record {
    each = λ v m. elim (h.each v m) [ inl i ↦ inl (in_longer v i) | inr x ↦ inr x ];
    only = λ v i. h.only v (in_shorter v i);
  }

-- where there are no atoms, none waits
pub waiting_none : (held : List Lit) → AreWaiting [] held []
waiting_none held = record { each = λ v m. absurd (none v m); only = λ v i. absurd (omega (arith, waits_below [] v i)) }

-- an atom more waits
pub waiting_more : (atoms : List TermId) (held : List Lit) (a : TermId) (waiting : List Bool) → a.0 < length waiting → AreWaiting atoms held waiting → AreWaiting (atoms ++ a ∷ []) held (set waiting a.0 true)
waiting_more atoms held a waiting known h = record {
  each = λ v m. elim (Contains-push_cases atoms a v m) [
    | inl early ↦ elim (h.each v early) [ inl i ↦ inl (still_in waiting a known v i) | inr x ↦ inr x ]
    | inr e ↦ inl (subst (IsIn (set waiting a.0 true)) e (now_in waiting a known))
  ];
  only = λ v i. elim (was_in waiting a known v i) [
    | inl j ↦ Contains-append_left atoms (a ∷ []) v (h.only v j)
    | inr e ↦ subst (Contains (atoms ++ a ∷ [])) e (Contains-push atoms a)
  ];
}
