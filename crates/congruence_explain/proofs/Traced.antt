-- How propagation goes on from premise to premise.
use Rattle.std.proofs.Common.{◌≡◌, ℕ, suc, ◌<◌, ◌⊎◌, inl, inr, List, [], ◌∷◌, ◌++◌, length, map, take, drop, get_or, Contains, sym, ap, ◌∙◌, subst, arith, append_assoc, append-nil, length-append}
use Rattle.std.specs.Prelude.{Vec}
use Rattle.std.specs.declared.alloc.Global.{Global}
use Rattle.std.specs.List.{remove}
use Rattle.std.proofs.Math.Seq.{drop-cons, get_or-append_seam, take-append_seam}
use Rattle.std.proofs.lemmas.Bool.{cases_lt}
use Rattle.std.proofs.lemmas.List.{map-append, take-append-drop, take-append-le, get_or_append_left, get_or-map, length-map}
use Rattle.std.proofs.lemmas.List.Elements.{All-contains, All-contains_itself, All-take, All-drop, Contains-push, Contains-push_cases, Contains-append_left, Contains-append_right, Contains-append_cases}
use Rattle.spec_text.proofs.Members.{cases, to_image, from_image}
use Rattle.term_core.specs.declared.ids.Lit.{Lit}
use Rattle.term_core.specs.Tables.{TableView, IsIn, AreDifferent}
use Rattle.clause_literals.specs.Literals.{lit_complement, lists, AddsLast, AreLiteralsIn}
use Rattle.clause_literals.specs.Statuses.{IsFalsified, IsUnit, IsUnresolved}
use Rattle.clause_literals.proofs.LiteralLists.{negation_twice, not_own_negation, adds_new}
use Rattle.congruence_explain.specs.declared.chain.Implied.{Implied}
use Rattle.congruence_explain.specs.Needing.{HasOneLeft, IsSpent, reached, AreImplied, LeadsTo, IsRefuted}
use Rattle.congruence_explain.proofs.Lefts.{to_items}
use Rattle.congruence_explain.proofs.Stuck.{none_false}

-- What was implied up to here, and the premises that wait: each other one has a literal that holds.
pub record IsTraced (premises : List (List Lit)) (start held : List Lit) (implied : List Implied) (waiting : List (List Lit)) : Type 0 where
  pub held_is : held ≡ reached start implied
  pub steps : AreImplied premises start implied
  pub within : (c : List Lit) → Contains waiting c → Contains premises c
  pub covered : (c : List Lit) → Contains premises c → Contains waiting c ⊎ IsSpent held c

-- nothing is implied yet
pub traced_none : (premises : List (List Lit)) (start : List Lit) (implied : List Implied) → implied ≡ [] → IsTraced premises start start implied premises
traced_none premises start implied none = subst (λ (xs : List Implied). IsTraced premises start start xs premises) (sym none) (record {
  held_is = sym (append-nil start);
  steps = λ i d lt. absurd (omega (arith, lt));
  within = λ c i. i;
  covered = λ c i. inl i;
})

-- where one is taken out
module _ (vs : List (Vec Lit Global)) (at : ℕ) (v : Vec Lit Global) (lt : at < length (lists vs)) (is : v ≡ get_or vs at v) (rest : List (Vec Lit Global)) (removed : rest ≡ remove vs at) where
  short : at < length vs
  short = omega (arith, lt, length-map vs to_items)

  pub taken_is : get_or (lists vs) at [] ≡ v.items
  taken_is = get_or-map to_items vs at v [] short ∙ ap to_items (sym is)

  split : vs ≡ take at vs ++ (v ∷ drop (suc at) vs)
  split = sym (take-append-drop at vs) ∙ ap (λ xs. take at vs ++ xs) (drop-cons vs at v short ∙ ap (λ (x : Vec Lit Global). x ∷ drop (suc at) vs) (sym is))

  pub taken_cases : (c : List Lit) → Contains (lists vs) c → (v.items ≡ c) ⊎ Contains (lists rest) c
  taken_cases c i =
      let w = from_image to_items vs c i in
      let put : Contains (remove vs at) w.0 → Contains (lists rest) c = λ j. subst (Contains (lists rest)) w.2 (to_image to_items rest w.0 (subst (λ xs. Contains xs w.0) (sym removed) j)) in
      elim (Contains-append_cases (take at vs) (v ∷ drop (suc at) vs) w.0 (subst (λ xs. Contains xs w.0) split w.1)) [
        | inl a ↦ inr (put (Contains-append_left (take at vs) (drop (suc at) vs) w.0 a))
        | inr b ↦ elim (cases v (drop (suc at) vs) w.0 b) [
          | inl e ↦ inl (ap to_items e ∙ w.2)
          | inr d ↦ inr (put (Contains-append_right (take at vs) (drop (suc at) vs) w.0 d))
        ]
      ]

  pub rest_within : (c : List Lit) → Contains (lists rest) c → Contains (lists vs) c
  rest_within c i =
      let w = from_image to_items rest c i in
      let back : Contains vs w.0 → Contains (lists vs) c = λ j. subst (Contains (lists vs)) w.2 (to_image to_items vs w.0 j) in
      elim (Contains-append_cases (take at vs) (drop (suc at) vs) w.0 (subst (λ xs. Contains xs w.0) removed w.1)) [
        | inl a ↦ back (All-contains (Contains vs) (take at vs) w.0 (All-take (Contains vs) at vs (All-contains_itself vs)) a)
        | inr b ↦ back (All-contains (Contains vs) (drop (suc at) vs) w.0 (All-drop (Contains vs) (suc at) vs (All-contains_itself vs)) b)
      ]

  pub taken_in : Contains (lists vs) v.items
  taken_in = (at, lt, get_or-map to_items vs at v v.items short ∙ ap to_items (sym is))

-- one more is implied
module _ (premises : List (List Lit)) (start : List Lit) (implied : List Implied) (x : Implied) (c_in : Contains premises x.clause.items) (u : IsUnit (reached start implied) x.clause.items x.literal) (steps : AreImplied premises start implied) where
  steps_more : AreImplied premises start (implied ++ x ∷ [])
  steps_more i d lt = elim (cases_lt i (length implied)) [
    | inl early ↦
        let same : get_or (implied ++ x ∷ []) i d ≡ get_or implied i d = get_or_append_left implied (x ∷ []) d i early in
        let front : take i (implied ++ x ∷ []) ≡ take i implied = take-append-le i implied (x ∷ []) (omega (arith, early)) in
        let old = steps i d early in
        subst (λ (y : Implied). Contains premises y.clause.items × IsUnit (reached start (take i (implied ++ x ∷ []))) y.clause.items y.literal) (sym same)
        (subst (λ (xs : List Implied). Contains premises (get_or implied i d).clause.items × IsUnit (reached start xs) (get_or implied i d).clause.items (get_or implied i d).literal) (sym front) old)
    | inr late ↦
        let here : i ≡ length implied = omega (arith, late, lt, length-append implied (x ∷ [])) in
        let same : get_or (implied ++ x ∷ []) i d ≡ x = ap (λ n. get_or (implied ++ x ∷ []) n d) here ∙ get_or-append_seam implied x [] d in
        let front : take i (implied ++ x ∷ []) ≡ implied = ap (λ n. take n (implied ++ x ∷ [])) here ∙ take-append_seam implied (x ∷ []) in
        subst (λ (y : Implied). Contains premises y.clause.items × IsUnit (reached start (take i (implied ++ x ∷ []))) y.clause.items y.literal) (sym same)
        (subst (λ (xs : List Implied). Contains premises x.clause.items × IsUnit (reached start xs) x.clause.items x.literal) (sym front) (c_in, u))
  ]

  reached_one : reached start (implied ++ x ∷ []) ≡ reached start implied ++ x.literal ∷ []
  reached_one =
      let literal : Implied → Lit = λ y. y.literal in
      ap (λ xs. start ++ xs) (map-append literal implied (x ∷ [])) ∙ sym (append_assoc start (map literal implied) (x.literal ∷ []))

-- a clause with a literal that holds keeps it
spent_more : (held : List Lit) (l : Lit) → (Contains held (lit_complement l) → ⊥) → (c : List Lit) → IsSpent held c → IsSpent (held ++ l ∷ []) c
spent_more held l free c s = record {
  literal = s.literal;
  there = s.there;
  holds = Contains-append_left held (l ∷ []) s.literal s.holds;
  not_false = λ i. elim (Contains-push_cases held l (lit_complement s.literal) i) [
    | inl was ↦ s.not_false was
    | inr e ↦ free (subst (λ (x : Lit). Contains held x) (sym (ap lit_complement e ∙ negation_twice s.literal)) s.holds)
  ];
}

module _ (premises : List (List Lit)) (start held : List Lit) (implied : List Implied) (vs : List (Vec Lit Global)) (h : IsTraced premises start held implied (lists vs)) where
  module _ (at : ℕ) (v : Vec Lit Global) (lt : at < length (lists vs)) (is : v ≡ get_or vs at v) (rest : List (Vec Lit Global)) (removed : rest ≡ remove vs at) where
    there : Contains premises v.items
    there = h.within v.items (taken_in vs at v lt is rest removed)

    -- a false premise is come to
    pub traced_to : IsFalsified held (get_or (lists vs) at []) → LeadsTo premises start implied v.items
    traced_to f = record {
      there = there;
      steps = h.steps;
      fails = subst (λ (hs : List Lit). IsFalsified hs v.items) h.held_is (subst (IsFalsified held) (taken_is vs at v lt is rest removed) f);
    }

    module _ (l : Lit) (left : HasOneLeft held (get_or (lists vs) at []) l) where
      own : HasOneLeft held v.items l
      own = subst (λ (c : List Lit). HasOneLeft held c l) (taken_is vs at v lt is rest removed) left

      -- its one literal holds already
      pub traced_spent : Contains held l → IsTraced premises start held implied (lists rest)
      traced_spent holds = record {
        held_is = h.held_is;
        steps = h.steps;
        within = λ c i. h.within c (rest_within vs at v lt is rest removed c i);
        covered = λ c i. elim (h.covered c i) [
          | inl waits ↦ elim (taken_cases vs at v lt is rest removed c waits) [
            | inl e ↦ inr (subst (IsSpent held) e (record { literal = l; there = own.there; holds = holds; not_false = own.not_false }))
            | inr waits_still ↦ inl waits_still
          ]
          | inr spent ↦ inr spent
        ];
      }

      -- it is implied
      pub traced_more : (new : List Lit) → AddsLast held l new → (Contains held l → ⊥) → (x : Implied) → x.literal ≡ l → x.clause.items ≡ v.items → (all : List Implied) → all ≡ implied ++ x ∷ [] → IsTraced premises start new all (lists rest)
      traced_more new adds free x x_is c_is all all_is =
          let last : new ≡ held ++ l ∷ [] = adds_new held new l adds free in
          let unit_held : IsUnit held v.items l = record { there = own.there; not_held = free; not_false = own.not_false; others_false = own.others_false } in
          let u : IsUnit (reached start implied) x.clause.items x.literal =
          subst (λ (hs : List Lit). IsUnit hs x.clause.items x.literal) h.held_is (subst (λ (k : Lit). IsUnit held x.clause.items k) (sym x_is) (subst (λ (c : List Lit). IsUnit held c l) (sym c_is) unit_held)) in
          let c_in : Contains premises x.clause.items = subst (Contains premises) (sym c_is) there in
          subst (λ (xs : List Implied). IsTraced premises start new xs (lists rest)) (sym all_is)
          (subst (λ (hs : List Lit). IsTraced premises start hs (implied ++ x ∷ []) (lists rest)) (sym last) (record {
            held_is = (λ i. h.held_is i ++ x_is' x_is i ∷ []) ∙ sym (reached_one premises start implied x c_in u h.steps);
            steps = steps_more premises start implied x c_in u h.steps;
            within = λ c i. h.within c (rest_within vs at v lt is rest removed c i);
            covered = λ c i. elim (h.covered c i) [
              | inl waits ↦ elim (taken_cases vs at v lt is rest removed c waits) [
                | inl e ↦ inr (subst (IsSpent (held ++ l ∷ [])) e (record {
                  literal = l;
                  there = own.there;
                  holds = Contains-push held l;
                  not_false = λ j. elim (Contains-push_cases held l (lit_complement l) j) [ inl was ↦ own.not_false was | inr same ↦ not_own_negation l same ];
                }))
                | inr waits_still ↦ inl waits_still
              ]
              | inr spent ↦ inr (spent_more held l own.not_false c spent)
            ];
          }))
        where
          x_is' : x.literal ≡ l → l ≡ x.literal
          x_is' e = sym e

  -- a premise has come to be false by then
  pub traced_all : (t : TableView) → AreDifferent t.terms → IsRefuted t premises start → ((c : List Lit) → Contains (lists vs) c → IsUnresolved held c) → ⊥
  traced_all t differ refuted quiet = none_false t differ premises start held refuted.premises_in held_in (λ l i. subst (λ (hs : List Lit). Contains hs l) (sym h.held_is) (Contains-append_left start _ l i))
      (λ c i. elim (h.covered c i) [ inl waits ↦ inr (quiet c waits) | inr spent ↦ inl spent ]) refuted.refuted
    where
      literal : Implied → Lit
      literal y = y.literal

      each_in : (l : Lit) → Contains (reached start implied) l → IsIn t l.term
      each_in l i = elim (Contains-append_cases start (map (λ (y : Implied). y.literal) implied) l i) [
        | inl s ↦ All-contains (λ (m : Lit). IsIn t m.term) start l refuted.start_in s
        | inr j ↦
            let w = from_image (λ (y : Implied). y.literal) implied l j in
            let step = h.steps w.1.0 w.0 w.1.1 in
            let own : Contains premises w.0.clause.items × Contains w.0.clause.items w.0.literal = subst (λ (y : Implied). Contains premises y.clause.items × Contains y.clause.items y.literal) w.1.2 (step.0, step.1.there) in
            subst (λ (m : Lit). IsIn t m.term) w.2 (All-contains (λ (m : Lit). IsIn t m.term) w.0.clause.items w.0.literal (All-contains (AreLiteralsIn t) premises w.0.clause.items refuted.premises_in own.0) own.1)
      ]

      held_in : AreLiteralsIn t held
      held_in k d lt = each_in (get_or held k d) (subst (λ (hs : List Lit). Contains hs (get_or held k d)) h.held_is (Rattle.std.proofs.lemmas.List.Elements.Contains-get_or held k d lt))
