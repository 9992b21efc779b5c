-- Rows of variables and their places: one more, one less, fewer variables, and two that change places.
use Rattle.std.proofs.Common.{◌≡◌, ◌≢◌, ℕ, ◌+◌, ◌-◌, ◌<◌, ◌≤◌, ◌==◌, true, false, List, [], ◌∷◌, ◌++◌, length, get_or, set, map, take, Contains, Option, Some, None, inl, inr, refl, sym, ap, ◌∙◌, subst, arith, true≢false}
use Rattle.std.specs.List.{AllPairs, list_any}
use Rattle.std.specs.Option.{is_some}
use Rattle.std.specs.Prelude.{MatchOption, IfSome}
use Rattle.std.proofs.Math.ListN as total
use Rattle.std.proofs.Math.Nat.{min-le_left, min-le_right}
use Rattle.std.proofs.Math.Seq.{map-set_same}
use Rattle.std.proofs.lemmas.Bool.{cases_eq, cases_lt}
use Rattle.std.proofs.lemmas.Bool.Decides.{Decides-eqb}
use Rattle.std.proofs.lemmas.List.{length_push, length-set, length-map, get_or-set_same, get_or-set_other, get_or-map, get_or_append_left, get_or_past, get_or_push, get_or-take, length-take}
use Rattle.std.proofs.lemmas.Map.Steps.{length-le_from_distinct_below}
use Rattle.std.proofs.lemmas.Map.Made.{IsDistinct-from_AllPairs, is_member-Decides}
use Rattle.std.proofs.lemmas.Option.{none-some, same_Some}
use Rattle.term_core.specs.declared.ids.TermId.{TermId}
use Rattle.term_core.proofs.Numbers.{same_id}
use Rattle.variable_order.specs.Orders.{IsIn, IsEmpty, IsRemoved}
use Rattle.variable_order.specs.Rows.{RowView, no_variable, IsAt}
use Rattle.variable_order.specs.Kept.{order_view, ArePlaces}
use Rattle.variable_order.specs.declared.places.Places.TheInside.{Inside}

-- the number of the variable at a place
abbrev at : List TermId → ℕ → ℕ
at row k = (get_or row k no_variable).0

-- a variable is in the row where it has a place
pub member_of : (places : List (Option ℕ)) (v : ℕ) → get_or (map is_some places) v false ≡ is_some (get_or places v None)
member_of places v = total.get_or-map is_some places v None

-- no place, no variable of the row
pub not_member : (places : List (Option ℕ)) (v : ℕ) → get_or (map is_some places) v false ≡ false → get_or places v None ≡ None
not_member places v e = go (get_or places v None) (sym (member_of places v) ∙ e)
  where
    go : (o : Option ℕ) → is_some o ≡ false → o ≡ None
    go None f = refl
    go (Some k) f = absurd (true≢false f)

-- what the place of a variable tells
pub place_by : (p : Inside) (v : TermId) → ArePlaces p.row.items p.places.items → (o : Option ℕ) → get_or p.places.items v.0 None ≡ o → MatchOption o (get_or (map is_some p.places.items) v.0 false ≡ false) (IsAt (order_view p) v)
place_by p v h None e = member_of p.places.items v.0 ∙ ap is_some e
place_by p v h (Some k) e = record { is_in = member_of p.places.items v.0 ∙ ap is_some e; within = (h.only v.0 k e).0; is = same_id _ v (h.only v.0 k e).1 }

-- where the row has no variable, none is in it
pub none_in : (row : List TermId) (places : List (Option ℕ)) → ArePlaces row places → row ≡ [] → IsEmpty (map is_some places)
none_in row places h empty v i = go (get_or places v.0 None) refl
  where
    go : (o : Option ℕ) → get_or places v.0 None ≡ o → ⊥
    go None e = true≢false (sym i ∙ member_of places v.0 ∙ ap is_some e)
    go (Some k) e = let lt = (h.only v.0 k e).0 in omega (arith, lt, ap length empty)

-- the row of no variables
pub placed_first : ArePlaces [] []
placed_first = record { there = λ k lt. absurd (omega (arith, lt)); only = λ v k e. absurd (none-some k e) }

module _ (row : List TermId) (places : List (Option ℕ)) (h : ArePlaces row places) where
  -- what is in the row is a variable
  pub known : (k : ℕ) → k < length row → at row k < length places
  known k lt = elim (cases_lt (at row k) (length places)) [
    | inl below ↦ below
    | inr le ↦ absurd (none-some k (sym (get_or_past places (at row k) None le) ∙ h.there k lt))
  ]

  pub known_at : (k : ℕ) (v : TermId) → k < length row → v ≡ get_or row k no_variable → v.0 < length places
  known_at k v lt is = subst (λ (x : TermId). x.0 < length places) (sym is) (known k lt)

  place_at : (k : ℕ) (v : TermId) → k < length row → v ≡ get_or row k no_variable → get_or places v.0 None ≡ Some k
  place_at k v lt is = ap (λ (x : TermId). get_or places x.0 None) is ∙ h.there k lt

  -- no variable occurs twice
  apart : (i j : ℕ) → i < length row → j < length row → at row i ≡ at row j → i ≡ j
  apart i j il jl e = same_Some i j (sym (h.there i il) ∙ ap (λ v. get_or places v None) e ∙ h.there j jl)

  -- so there are no more than variables
  pub bounded : length row ≤ length places
  bounded = omega (arith, length-map row number, length-le_from_distinct_below (map number row) (length places) (IsDistinct-from_AllPairs Decides-eqb (map number row) pairs) below)
    where
      number : TermId → ℕ
      number v = v.0

      pairs : AllPairs (λ (x y : ℕ). x ≢ y) (map number row)
      pairs i j d ij within e =
          let jl : j < length row = omega (arith, within, length-map row number) in
          let il : i < length row = omega (arith, ij, jl) in
          let same : i ≡ j = apart i j il jl (sym (get_or-map number row i no_variable d il) ∙ e ∙ get_or-map number row j no_variable d jl) in
          absurd (omega (arith, same, ij))

      below : (q : ℕ) → list_any (◌==◌ q) (map number row) ≡ true → q < length places
      below q e = go ((is_member-Decides Decides-eqb (map number row) q).0 e)
        where
          go : Contains (map number row) q → q < length places
          go (i, lt, is) =
              let il : i < length row = omega (arith, lt, length-map row number) in
              subst (λ (t : ℕ). t < length places) (sym (get_or-map number row i no_variable q il) ∙ is) (known i il)

  -- a variable more, that is in no row
  pub placed_grown : ArePlaces row (places ++ None ∷ [])
  placed_grown = record {
    there = λ k lt. get_or_append_left places (None ∷ []) None (at row k) (known k lt) ∙ h.there k lt;
    only = λ v k e. elim (cases_lt v (length places)) [
      | inl lt ↦ h.only v k (sym (get_or_append_left places (None ∷ []) None v lt) ∙ e)
      | inr le ↦ absurd (none-some k (sym (past v le) ∙ e))
    ];
  }
    where
      past : (v : ℕ) → length places ≤ v → get_or (places ++ None ∷ []) v None ≡ None
      past v le = elim (cases_eq v (length places)) [
        | inl e ↦ get_or_push places None None v (sym e)
        | inr ne ↦ get_or_past (places ++ None ∷ []) v None (omega (arith, length_push places None, le, ne))
      ]

  -- a variable is put last
  module _ (v : TermId) (lt : v.0 < length places) (none : get_or places v.0 None ≡ None) where
    pub placed_pushed : ArePlaces (row ++ v ∷ []) (set places v.0 (Some (length row)))
    placed_pushed = record { there = there; only = only }
      where
        there : (k : ℕ) → k < length (row ++ v ∷ []) → get_or (set places v.0 (Some (length row))) (at (row ++ v ∷ []) k) None ≡ Some k
        there k kl = elim (cases_lt k (length row)) [
          | inl old ↦
              let same : at (row ++ v ∷ []) k ≡ at row k = ap (λ (x : TermId). x.0) (get_or_append_left row (v ∷ []) no_variable k old) in
              let other : at row k ≢ v.0 = λ e. none-some k (sym none ∙ ap (λ t. get_or places t None) (sym e) ∙ h.there k old) in
              ap (λ t. get_or (set places v.0 (Some (length row))) t None) same ∙ get_or-set_other places v.0 (at row k) (Some (length row)) None other ∙ h.there k old
          | inr le ↦
              let is : k ≡ length row = omega (arith, le, kl, length_push row v) in
              let same : at (row ++ v ∷ []) k ≡ v.0 = ap (λ (x : TermId). x.0) (get_or_push row v no_variable k (sym is)) in
              ap (λ t. get_or (set places v.0 (Some (length row))) t None) same ∙ get_or-set_same places v.0 (Some (length row)) None lt ∙ ap Some (sym is)
        ]

        only : (u k : ℕ) → get_or (set places v.0 (Some (length row))) u None ≡ Some k → (k < length (row ++ v ∷ [])) × (at (row ++ v ∷ []) k ≡ u)
        only u k e = elim (cases_eq u v.0) [
          | inl same ↦
              let is : length row ≡ k = same_Some (length row) k (sym (get_or-set_same places v.0 (Some (length row)) None lt) ∙ ap (λ t. get_or (set places v.0 (Some (length row))) t None) (sym same) ∙ e) in
              (omega (arith, is, length_push row v), ap (λ (x : TermId). x.0) (get_or_push row v no_variable k is) ∙ sym same)
          | inr other ↦
              let o = h.only u k (sym (get_or-set_other places v.0 u (Some (length row)) None other) ∙ e) in
              (omega (arith, o.0, length_push row v), ap (λ (x : TermId). x.0) (get_or_append_left row (v ∷ []) no_variable k o.0) ∙ o.1)
        ]

-- there is room for it
pub fits : (row : List TermId) (places : List (Option ℕ)) (h : ArePlaces row places) (v : TermId) → v.0 < length places → get_or places v.0 None ≡ None → length row + 1 ≤ length places
fits row places h v lt none = omega (arith, bounded (row ++ v ∷ []) (set places v.0 (Some (length row))) (placed_pushed row places h v lt none), length_push row v, length-set places v.0 (Some (length row)))

-- the last variable is taken
module _ (front : List TermId) (v : TermId) (places : List (Option ℕ)) (h : ArePlaces (front ++ v ∷ []) places) where
  abbrev row : List TermId
  row = front ++ v ∷ []

  inside : (k : ℕ) → k < length front → k < length row
  inside k lt = omega (arith, lt, length_push front v)

  last_there : length front < length row
  last_there = omega (arith, length_push front v)

  last : at row (length front) ≡ v.0
  last = ap (λ (x : TermId). x.0) (get_or_push front v no_variable (length front) refl)

  early : (k : ℕ) → k < length front → at row k ≡ at front k
  early k lt = ap (λ (x : TermId). x.0) (get_or_append_left front (v ∷ []) no_variable k lt)

  -- it is one of the variables
  pub last_known : v.0 < length places
  last_known = subst (λ (t : ℕ). t < length places) last (known row places h (length front) last_there)

  -- and in the row
  pub last_place : get_or places v.0 None ≡ Some (length front)
  last_place = ap (λ t. get_or places t None) (sym last) ∙ h.there (length front) last_there

  pub placed_popped : ArePlaces front (set places v.0 None)
  placed_popped = record { there = there; only = only }
    where
      there : (k : ℕ) → k < length front → get_or (set places v.0 None) (at front k) None ≡ Some k
      there k lt =
          let other : at front k ≢ v.0 = λ e. let same : k ≡ length front = apart row places h k (length front) (inside k lt) last_there (early k lt ∙ e ∙ sym last) in omega (arith, same, lt) in
          get_or-set_other places v.0 (at front k) None None other ∙ ap (λ t. get_or places t None) (sym (early k lt)) ∙ h.there k (inside k lt)

      only : (u k : ℕ) → get_or (set places v.0 None) u None ≡ Some k → (k < length front) × (at front k ≡ u)
      only u k e = elim (cases_eq u v.0) [
        | inl same ↦ absurd (none-some k (sym (get_or-set_same places v.0 None None last_known) ∙ ap (λ t. get_or (set places v.0 None) t None) (sym same) ∙ e))
        | inr other ↦
            let o = h.only u k (sym (get_or-set_other places v.0 u None None other) ∙ e) in
            let lt : k < length front = elim (cases_lt k (length front)) [
              | inl early ↦ early
              | inr le ↦
                  let is : k ≡ length front = omega (arith, le, o.0, length_push front v) in
                  absurd (other (sym o.1 ∙ ap (at row) is ∙ last))
            ] in
            (lt, sym (early k lt) ∙ o.1)
      ]

-- the last variable is out, and it was one of the row's
pub last_taken : (r s : RowView) (v : TermId) (o : Option TermId) → IsIn r.members v → get_or r.row (length r.row - 1) no_variable ≡ v
    → MatchOption o (IsEmpty r.members × (s ≡ r)) (λ w. IsRemoved r.members w s.members) → IfSome o (λ w. r.row ≡ s.row ++ w ∷ [])
    → (s.members ≡ set r.members v.0 false) × (length r.row ≡ length s.row + 1)
last_taken r s v None i is none row = absurd (none.0 v i)
last_taken r s v (Some w) i is removed row = (removed.members ∙ ap (λ (x : TermId). set r.members x.0 false) same, more)
  where
    more : length r.row ≡ length s.row + 1
    more = ap length row ∙ length_push s.row w

    same : w ≡ v
    same = sym (get_or_push s.row w no_variable (length r.row - 1) (omega (arith, more))) ∙ sym (ap (λ xs. get_or xs (length r.row - 1) no_variable) row) ∙ is

-- variables of no row go
module _ (row : List TermId) (places : List (Option ℕ)) (h : ArePlaces row places) (vars : ℕ) (out : (k : ℕ) → vars ≤ k → get_or (map is_some places) k false ≡ false) where
  -- those of the row stay
  stays : (u k : ℕ) → get_or places u None ≡ Some k → u < vars
  stays u k e = elim (cases_lt u vars) [
    | inl lt ↦ lt
    | inr le ↦ absurd (none-some k (sym (not_member places u (out u le)) ∙ e))
  ]

  pub placed_cut : ArePlaces row (take vars places)
  placed_cut = record {
    there = λ k lt. get_or-take vars places (at row k) None (stays (at row k) k (h.there k lt)) ∙ h.there k lt;
    only = λ u k e. elim (cases_lt u vars) [
      | inl lt ↦ h.only u k (sym (get_or-take vars places u None lt) ∙ e)
      | inr le ↦ absurd (none-some k (sym (get_or_past (take vars places) u None (omega (arith, le, length-take vars places, min-le_left vars (length places)))) ∙ e))
    ];
  }

  pub room_cut : length (take vars places) ≤ length places
  room_cut = omega (arith, length-take vars places, min-le_right vars (length places))

-- two variables change places
module _ (row : List TermId) (places : List (Option ℕ)) (h : ArePlaces row places) (i j : ℕ) (il : i < length row) (jl : j < length row) (a b : TermId) (a_is : a ≡ get_or row i no_variable) (b_is : b ≡ get_or row j no_variable) where
  abbrev swapped : List TermId
  swapped = set (set row i b) j a

  abbrev moved : List (Option ℕ)
  moved = set (set places a.0 (Some j)) b.0 (Some i)

  place_a : get_or places a.0 None ≡ Some i
  place_a = place_at row places h i a il a_is

  place_b : get_or places b.0 None ≡ Some j
  place_b = place_at row places h j b jl b_is

  inner_b : b.0 < length (set places a.0 (Some j))
  inner_b = omega (arith, known_at row places h j b jl b_is, length-set places a.0 (Some j))

  inner_j : j < length (set row i b)
  inner_j = omega (arith, jl, length-set row i b)

  count : length swapped ≡ length row
  count = length-set (set row i b) j a ∙ length-set row i b

  -- what is where, and which place is known
  row_at_j : at swapped j ≡ a.0
  row_at_j = ap (λ (x : TermId). x.0) (get_or-set_same (set row i b) j a no_variable inner_j)

  row_at_i : at swapped i ≡ b.0
  row_at_i = elim (cases_eq i j) [
    | inl e ↦ ap (at swapped) e ∙ row_at_j ∙ ap (λ (x : TermId). x.0) (a_is ∙ ap (λ k. get_or row k no_variable) e ∙ sym b_is)
    | inr ne ↦ ap (λ (x : TermId). x.0) (get_or-set_other (set row i b) j i a no_variable ne ∙ get_or-set_same row i b no_variable il)
  ]

  row_other : (k : ℕ) → k ≢ i → k ≢ j → at swapped k ≡ at row k
  row_other k ni nj = ap (λ (x : TermId). x.0) (get_or-set_other (set row i b) j k a no_variable nj ∙ get_or-set_other row i k b no_variable ni)

  moved_b : get_or moved b.0 None ≡ Some i
  moved_b = get_or-set_same (set places a.0 (Some j)) b.0 (Some i) None inner_b

  moved_a : get_or moved a.0 None ≡ Some j
  moved_a = elim (cases_eq a.0 b.0) [
    | inl e ↦ ap (λ t. get_or moved t None) e ∙ moved_b ∙ sym place_a ∙ ap (λ t. get_or places t None) e ∙ place_b
    | inr ne ↦ get_or-set_other (set places a.0 (Some j)) b.0 a.0 (Some i) None ne ∙ get_or-set_same places a.0 (Some j) None (known_at row places h i a il a_is)
  ]

  moved_other : (u : ℕ) → u ≢ a.0 → u ≢ b.0 → get_or moved u None ≡ get_or places u None
  moved_other u na nb = get_or-set_other (set places a.0 (Some j)) b.0 u (Some i) None nb ∙ get_or-set_other places a.0 u (Some j) None na

  pub placed_swapped : ArePlaces swapped moved
  placed_swapped = record { there = there; only = only }
    where
      there : (k : ℕ) → k < length swapped → get_or moved (at swapped k) None ≡ Some k
      there k lt = elim (cases_eq k j) [
        | inl ej ↦ ap (λ t. get_or moved t None) (ap (at swapped) ej ∙ row_at_j) ∙ moved_a ∙ ap Some (sym ej)
        | inr nj ↦ elim (cases_eq k i) [
          | inl ei ↦ ap (λ t. get_or moved t None) (ap (at swapped) ei ∙ row_at_i) ∙ moved_b ∙ ap Some (sym ei)
          | inr ni ↦
              let old : k < length row = omega (arith, lt, count) in
              let na : at row k ≢ a.0 = λ e. ni (apart row places h k i old il (e ∙ ap (λ (x : TermId). x.0) a_is)) in
              let nb : at row k ≢ b.0 = λ e. nj (apart row places h k j old jl (e ∙ ap (λ (x : TermId). x.0) b_is)) in
              ap (λ t. get_or moved t None) (row_other k ni nj) ∙ moved_other (at row k) na nb ∙ h.there k old
        ]
      ]

      only : (u k : ℕ) → get_or moved u None ≡ Some k → (k < length swapped) × (at swapped k ≡ u)
      only u k e = elim (cases_eq u b.0) [
        | inl eb ↦
            let is : i ≡ k = same_Some i k (sym moved_b ∙ ap (λ t. get_or moved t None) (sym eb) ∙ e) in
            (omega (arith, is, il, count), ap (at swapped) (sym is) ∙ row_at_i ∙ sym eb)
        | inr nb ↦ elim (cases_eq u a.0) [
          | inl ea ↦
              let is : j ≡ k = same_Some j k (sym moved_a ∙ ap (λ t. get_or moved t None) (sym ea) ∙ e) in
              (omega (arith, is, jl, count), ap (at swapped) (sym is) ∙ row_at_j ∙ sym ea)
          | inr na ↦
              let o = h.only u k (sym (moved_other u na nb) ∙ e) in
              let ni : k ≢ i = λ s. na (sym o.1 ∙ ap (at row) s ∙ ap (λ (x : TermId). x.0) (sym a_is)) in
              let nj : k ≢ j = λ s. nb (sym o.1 ∙ ap (at row) s ∙ ap (λ (x : TermId). x.0) (sym b_is)) in
              (omega (arith, o.0, count), row_other k ni nj ∙ o.1)
        ]
      ]

  -- the second place has the variable of the first
  pub moved_there : get_or swapped j no_variable ≡ get_or row i no_variable
  moved_there = get_or-set_same (set row i b) j a no_variable inner_j ∙ a_is

  -- the same variables are in the row
  pub members_swapped : map is_some moved ≡ map is_some places
  members_swapped =
      let first : map is_some (set places a.0 (Some j)) ≡ map is_some places = map-set_same is_some places a.0 (Some j) None (sym (ap is_some place_a)) in
      let b_some : is_some (get_or (set places a.0 (Some j)) b.0 None) ≡ true = sym (member_of (set places a.0 (Some j)) b.0) ∙ ap (λ ms. get_or ms b.0 false) first ∙ member_of places b.0 ∙ ap is_some place_b in
      map-set_same is_some (set places a.0 (Some j)) b.0 (Some i) None (sym b_some) ∙ first
