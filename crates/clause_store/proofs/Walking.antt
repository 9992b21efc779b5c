-- The walk along the list of a literal.
use Rattle.std.proofs.Common.{◌≡◌, ◌≢◌, ℕ, ◌+◌, ◌-◌, ◌<◌, ◌≤◌, List, [], ◌∷◌, ◌++◌, length, get_or, set, take, Contains, ◌⊎◌, inl, inr, sym, ap, ◌∙◌, subst, arith}
use Rattle.std.specs.List.{swap_remove}
use Rattle.std.proofs.lemmas.Bool.{cases_lt, cases_eq}
use Rattle.std.proofs.lemmas.List.{get_or_default, get_or-take, get_or-set_same, get_or-set_other, length-set, set-set, set-get_or, take_more}
use Rattle.std.proofs.lemmas.List.Elements.{Contains-push_cases}
use Rattle.term_core.specs.declared.ids.Lit.{Lit}
use Rattle.clause_literals.specs.Literals.{lit_complement}
use Rattle.clause_literals.proofs.LiteralLists.{negation_twice}
use Rattle.sat_trail.specs.Trails.{TrailView, no_lit}
use Rattle.watch_index.specs.Indexes.{code, list_of, IsListTaken}
use Rattle.clause_store.specs.declared.pair.Pair.{Pair}
use Rattle.clause_store.specs.Stores.{StoreView, no_pair}
use Rattle.clause_store.specs.Watching.{IsQuietPair, AreQuietPairs, Passes, HavePassed, HaveAllPassed, IsIndexed, IsExchanged, AreLiteralsAmong, PropagatesPart}
use Rattle.clause_store.proofs.Adding.{holds_on, same_front}
use Rattle.clause_store.proofs.Indexing.{lists, one_or_two}
use Rattle.clause_store.proofs.Looking.{list_with, place_with}
use Rattle.clause_store.proofs.QuietPairs.{quiet_on, front_within}

passes_on : (held more : List Lit) (f : Lit) (p : Pair) → AreLiteralsAmong held more → Passes held f p → Passes more f p
passes_on held more f p w h = record { as_first = λ e. w _ (h.as_first e); as_second = λ e. w _ (h.as_second e) }

pub passed_none : (pairs : List Pair) (list : List ℕ) (held : List Lit) (f : Lit) → HavePassed pairs list 0 held f
passed_none pairs list held f j lt = absurd (omega (arith, lt))

pub passed_stays : (pairs : List Pair) (list : List ℕ) (at n : ℕ) (held more : List Lit) (f : Lit) → AreLiteralsAmong held more → n ≡ get_or list at 0 → Passes more f (get_or pairs n no_pair) → HavePassed pairs list at held f → HavePassed pairs list (at + 1) more f
passed_stays pairs list at n held more f w is p h j lt within = elim (cases_lt j at) [
  | inl before ↦ passes_on held more f _ w (h j before within)
  | inr from ↦ let e : j ≡ at = omega (arith, lt, from) in rw e (rw (sym is) p)
]

swapped_before : (xs : List ℕ) (i j : ℕ) → i < length xs → j < i → get_or (swap_remove xs i 0) j 0 ≡ get_or xs j 0
swapped_before xs i j lt before = get_or-take (length xs - 1) (set xs i (get_or xs (length xs - 1) 0)) j 0 (omega (arith, lt, before)) ∙ get_or-set_other xs i j (get_or xs (length xs - 1) 0) 0 (omega (arith, before))

pub passed_moved : (pairs new : List Pair) (index new_index : List (List ℕ)) (at n : ℕ) (held more : List Lit) (f : Lit) → AreLiteralsAmong held more → at < length (list_of index f) → IsExchanged (record { number = n; place = at; literal = f }) pairs new index new_index
    → HavePassed pairs (list_of index f) at held f → HavePassed new (list_of new_index f) at more f
passed_moved pairs new index new_index at n held more f w lt m h j before within =
    let list : List ℕ = list_of index f in
    let entry : get_or (list_of new_index f) j 0 ≡ get_or list j 0 = ap (λ xs. get_or xs j 0) m.list ∙ swapped_before list at j lt before in
    let there : j < length list = omega (arith, before, lt) in
    rw (entry, m.pairs) (go (get_or list j 0) (cases_eq (get_or list j 0) n) (passes_on held more f _ w (h j before there)))
  where
    go : (k : ℕ) → (k ≡ n) ⊎ (k ≢ n) → Passes more f (get_or pairs k no_pair) → Passes more f (get_or (set pairs n m.pair) k no_pair)
    go k (inl e) p = rw (e, get_or-set_same pairs n m.pair no_pair m.below) (record { as_first = λ s. absurd (m.first_not s); as_second = λ s. absurd (m.second_not s) })
    go k (inr o) p = rw (get_or-set_other pairs n k m.pair no_pair o) p

-- the end of the list is reached
pub passed_all : (pairs : List Pair) (index : List (List ℕ)) (at : ℕ) (held : List Lit) (f : Lit) → IsIndexed pairs index → length (list_of index f) ≤ at
    → HavePassed pairs (list_of index f) at held f → HaveAllPassed pairs held f
passed_all pairs index at held f ix le h n lt d = record {
  as_first = λ e. (found (lists pairs index ix n (code f) lt d (inl (ap code e)))).as_first e;
  as_second = λ e. (found (lists pairs index ix n (code f) lt d (inr (ap code e)))).as_second e;
}
  where
    found : Contains (list_of index f) n → Passes held f (get_or pairs n no_pair)
    found (j, within, e) = subst (λ (k : ℕ). Passes held f (get_or pairs k no_pair)) (get_or_default (list_of index f) j 0 n within ∙ e) (h j (omega (arith, within, le)) within)

-- ---- the list was taken from the index

-- in whole it is as it was
pub taken_with : (pairs : List Pair) (index new : List (List ℕ)) (f : Lit) (list : List ℕ) → IsListTaken index f list new → IsIndexed pairs index → IsIndexed pairs (set new (code f) list)
taken_with pairs index new f list t ix = subst (IsIndexed pairs) (sym (ap (λ xs. set xs (code f) list) t.empty ∙ set-set index (code f) [] list ∙ ap (set index (code f)) t.list_is ∙ set-get_or index (code f) [])) ix

pub taken_there : (index new : List (List ℕ)) (f : Lit) (list : List ℕ) → IsListTaken index f list new → code f < length new
taken_there index new f list t = omega (arith, t.there, ap length t.empty, length-set index (code f) [])

pub moved_by : (pairs new : List Pair) (index new_index : List (List ℕ)) (list new_list : List ℕ) (at n : ℕ) (held more : List Lit) (f : Lit) → AreLiteralsAmong held more → at < length list → code f < length index → code f < length new_index
    → IsExchanged (record { number = n; place = at; literal = f }) pairs new (set index (code f) list) (set new_index (code f) new_list) → HavePassed pairs list at held f → HavePassed new new_list at more f
moved_by pairs new index new_index list new_list at n held more f w lt there still m h =
    subst (λ (xs : List ℕ). HavePassed new xs at more f) (list_with new_index f new_list still)
    (passed_moved pairs new (set index (code f) list) (set new_index (code f) new_list) at n held more f w (place_with index f list there at lt) m
    (subst (λ (xs : List ℕ). HavePassed pairs xs at held f) (sym (list_with index f list there)) h))

pub same_list : (index new_index : List (List ℕ)) (list new_list : List ℕ) (f : Lit) → code f < length index → code f < length new_index → set new_index (code f) new_list ≡ set index (code f) list → new_list ≡ list
same_list index new_index list new_list f there still e = sym (list_with new_index f new_list still) ∙ ap (λ xs. get_or xs (code f) []) e ∙ list_with index f list there

pub all_by : (pairs : List Pair) (index : List (List ℕ)) (list : List ℕ) (at : ℕ) (held : List Lit) (f : Lit) → code f < length index → IsIndexed pairs (set index (code f) list) → length list ≤ at
    → HavePassed pairs list at held f → HaveAllPassed pairs held f
all_by pairs index list at held f there ix le h = passed_all pairs (set index (code f) list) at held f ix (omega (arith, le, ap length (list_with index f list there)))
    (subst (λ (xs : List ℕ). HavePassed pairs xs at held f) (sym (list_with index f list there)) h)

-- there is none
pub none_by : (pairs : List Pair) (index : List (List ℕ)) (held : List Lit) (f : Lit) → IsIndexed pairs index → list_of index f ≡ [] → HaveAllPassed pairs held f
none_by pairs index held f ix e = passed_all pairs index 0 held f ix (omega (arith, ap length e)) (passed_none pairs (list_of index f) held f)

-- one literal of the trail is done
pub quiet_by_one : (s : StoreView) (a b : List Pair) (u v : TrailView) (done : ℕ) (f : Lit) → done < length u.literals → f ≡ lit_complement (get_or u.literals done no_lit) → PropagatesPart s (length a) a b u v → HaveAllPassed b v.literals f
    → AreQuietPairs (length a) a (take done u.literals) u.literals → AreQuietPairs (length a) b (take (done + 1) v.literals) v.literals
quiet_by_one s a b u v done f lt is g passed r n below = go (one_or_two (get_or b n no_pair))
  where
    front : take (done + 1) v.literals ≡ take done u.literals ++ get_or u.literals done no_lit ∷ []
    front = same_front s u v (done + 1) g.advances.0 (omega (arith, lt)) ∙ take_more u.literals done no_lit lt

    after : IsQuietPair (take done u.literals) v.literals (get_or b n no_pair)
    after = quiet_on (take done u.literals) u.literals v.literals _ (holds_on s u v g.advances.0) (g.prefixes (take done u.literals) u.literals (front_within done u.literals (omega (arith, lt))) (λ l x. x) r n below)

    one : (p q : Lit) → Contains (take (done + 1) v.literals) (lit_complement p) → (Contains (take done u.literals) (lit_complement p) → Contains v.literals q) → (p ≡ f → Contains v.literals q) → Contains v.literals q
    one p q c before here = elim (Contains-push_cases (take done u.literals) (get_or u.literals done no_lit) (lit_complement p) (subst (λ (xs : List Lit). Contains xs (lit_complement p)) front c)) [
      | inl x ↦ before x
      | inr e ↦ here (sym (negation_twice p) ∙ ap lit_complement (sym e) ∙ sym is)
    ]

    go : ((get_or b n no_pair).first ≡ (get_or b n no_pair).second) ⊎ ((get_or b n no_pair).first ≢ (get_or b n no_pair).second) → IsQuietPair (take (done + 1) v.literals) v.literals (get_or b n no_pair)
    go (inl e) = record { by_first = λ c. subst (Contains v.literals) e (after.alone e); by_second = λ c. after.alone e; alone = after.alone }
    go (inr d) =
        let here = passed n (omega (arith, below, g.paired)) d in
        record {
          by_first = λ c. one (get_or b n no_pair).first (get_or b n no_pair).second c after.by_first here.as_first;
          by_second = λ c. one (get_or b n no_pair).second (get_or b n no_pair).first c after.by_second here.as_second;
          alone = after.alone;
        }
