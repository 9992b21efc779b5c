-- What a walk has found of a term's subterms.
use Rattle.std.proofs.Common.{◌≡◌, ℕ, ◌<◌, ◌⊎◌, inl, inr, List, [], ◌∷◌, ◌++◌, length, All, Contains, refl, sym, subst, arith}
use Rattle.std.specs.Ordering.{nat_cmp, MatchOrdering}
use Rattle.std.specs.Cmp.{ranks}
use Rattle.std.specs.BTreeMap.Range.{IsLtBy}
use Rattle.spec_sorts.specs.Terms.{Term}
use Rattle.spec_sorts.specs.Subsets.{arguments_of}
use Rattle.term_core.specs.Tables.{TableView}
use Rattle.term_walks.specs.Filling.{FillsAll}
use Rattle.term_walks.specs.Orders.{number_term, In, AddsNumbers, Ascends, NamesArguments, IsOrder}
use Rattle.term_walks.proofs.Among.{in_first, in_either, in_second, all_in}

-- Those found ascend, and those that wait are below them.
pub record IsFound (t : TableView) (root : ℕ) (waiting found : List ℕ) (top : ℕ) : Type 0 where
  pub ascends : Ascends found
  pub apart : (q k : ℕ) → In q waiting → In k found → q < k
  pub closed : (k : ℕ) (u : Term) → In k found → Contains (arguments_of (number_term t k)) u → (a : ℕ) × (In a waiting ⊎ In a found) × (a < k) × (number_term t a ≡ u)
  pub there : (q : ℕ) → In q waiting ⊎ In q found → q < length t.terms
  pub root_there : In root waiting ⊎ In root found
  pub below : (q : ℕ) → In q waiting → q < top
  pub filled : (ts : List Term) → FillsAll ts (number_term t root) → (k : ℕ) → In k waiting ⊎ In k found → FillsAll ts (number_term t k)

pub less_by : (q k : ℕ) → IsLtBy nat_cmp q k → q < k
less_by q k h = subst (λ o. MatchOrdering o (q < k) (q ≡ k) (k < q)) h (ranks q k)

-- an argument of a number's term came
came : (t : TableView) (k : ℕ) (ids old new found : List ℕ) (u : Term) → AddsNumbers old ids new → NamesArguments t k ids → Contains (arguments_of (number_term t k)) u
    → (a : ℕ) × (In a new ⊎ In a found) × (a < k) × (number_term t a ≡ u)
came t k ids old new found u adds names i = let p = names.covers u i in (p.0, inl (adds.there p.0 p.1), all_in (λ a. a < k) p.0 ids names.before p.1, p.2)

pub found_first : (t : TableView) (root : ℕ) (ids old new : List ℕ) → old ≡ [] → AddsNumbers old ids new → NamesArguments t root ids → root < length t.terms → IsFound t root new (root ∷ []) root
found_first t root ids old new e adds names lt = record {
  ascends = (λ q j. absurd j, tt);
  apart = λ q k i j. elim j [ inl is ↦ subst (λ n. q < n) (sym is) (new_below q i) | inr r ↦ absurd r ];
  closed = λ k u i h. elim i [
    | inl is ↦ subst (λ n. (a : ℕ) × (In a new ⊎ In a (root ∷ [])) × (a < n) × (number_term t a ≡ u)) (sym is) (came t root ids old new (root ∷ []) u adds names (subst (λ n. Contains (arguments_of (number_term t n)) u) is h))
    | inr r ↦ absurd r
  ];
  there = λ q h. elim h [ inl i ↦ (let low = new_below q i in omega (arith, low, lt)) | inr j ↦ elim j [ inl is ↦ subst (λ n. n < length t.terms) (sym is) lt | inr r ↦ absurd r ] ];
  root_there = inr (inl refl);
  below = new_below;
  filled = λ ts f k h. elim h [
    | inl i ↦ names.filled ts f k (from_ids k i)
    | inr j ↦ elim j [ inl is ↦ subst (λ n. FillsAll ts (number_term t n)) (sym is) f | inr r ↦ absurd r ]
  ];
}
  where
    from_ids : (q : ℕ) → In q new → In q ids
    from_ids q i = elim (adds.no_others q i) [ inl r ↦ absurd (subst (In q) e r) | inr a ↦ a ]

    new_below : (q : ℕ) → In q new → q < root
    new_below q i = all_in (λ a. a < root) q ids names.before (from_ids q i)

pub waits : (k : ℕ) (waiting rest : List ℕ) → waiting ≡ rest ++ k ∷ [] → In k waiting
waits k waiting rest popped = subst (In k) (sym popped) (in_second k rest (k ∷ []) (inl refl))

pub k_there : (t : TableView) (root k : ℕ) (waiting rest found : List ℕ) (top : ℕ) → IsFound t root waiting found top → waiting ≡ rest ++ k ∷ [] → k < length t.terms
k_there t root k waiting rest found top f popped = f.there k (inl (waits k waiting rest popped))

pub k_below : (t : TableView) (root k : ℕ) (waiting rest found : List ℕ) (top : ℕ) → IsFound t root waiting found top → waiting ≡ rest ++ k ∷ [] → k < top
k_below t root k waiting rest found top f popped = f.below k (waits k waiting rest popped)

module _ (t : TableView) (root k : ℕ) (ids waiting rest new found : List ℕ) (top : ℕ) (f : IsFound t root waiting found top) (popped : waiting ≡ rest ++ k ∷ []) (low : All (λ q. IsLtBy nat_cmp q k) rest) (adds : AddsNumbers rest ids new) (names : NamesArguments t k ids) where
  new_below : (q : ℕ) → In q new → q < k
  new_below q i = elim (adds.no_others q i) [ inl r ↦ less_by q k (all_in (λ q. IsLtBy nat_cmp q k) q rest low r) | inr a ↦ all_in (λ a. a < k) q ids names.before a ]

  -- what waited waits, or is the one that was taken
  goes_on : (q : ℕ) → In q waiting → In q new ⊎ In q (k ∷ found)
  goes_on q i = elim (in_either q rest (k ∷ []) (subst (In q) popped i)) [
    | inl r ↦ inl (adds.kept q r)
    | inr e ↦ elim e [ inl is ↦ inr (inl is) | inr r ↦ absurd r ]
  ]

  stays : (q : ℕ) → In q waiting ⊎ In q found → In q new ⊎ In q (k ∷ found)
  stays q h = elim h [ inl i ↦ goes_on q i | inr j ↦ inr (inr j) ]

  -- what waits now waited, or is an argument
  waited : (q : ℕ) → In q new → In q waiting ⊎ In q ids
  waited q i = elim (adds.no_others q i) [ inl r ↦ inl (subst (In q) (sym popped) (in_first q rest (k ∷ []) r)) | inr a ↦ inr a ]

  pub found_more : IsFound t root new (k ∷ found) k
  found_more = record {
    ascends = (λ q j. f.apart k q (waits k waiting rest popped) j, f.ascends);
    apart = λ q j i h. elim h [ inl e ↦ subst (λ n. q < n) (sym e) (new_below q i) | inr r ↦ (let lt = new_below q i in let up = f.apart k j (waits k waiting rest popped) r in omega (arith, lt, up)) ];
    closed = λ j u i h. elim i [
      | inl e ↦ subst (λ n. (a : ℕ) × (In a new ⊎ In a (k ∷ found)) × (a < n) × (number_term t a ≡ u)) (sym e) (came t k ids rest new (k ∷ found) u adds names (subst (λ n. Contains (arguments_of (number_term t n)) u) e h))
      | inr r ↦ (let p = f.closed j u r h in (p.0, stays p.0 p.1, p.2, p.3))
    ];
    there = λ q h. let fits = k_there t root k waiting rest found top f popped in elim h [ inl i ↦ (let lt = new_below q i in omega (arith, lt, fits)) | inr i ↦ elim i [ inl e ↦ subst (λ n. n < length t.terms) (sym e) fits | inr r ↦ f.there q (inr r) ] ];
    root_there = stays root f.root_there;
    below = new_below;
    filled = λ ts h q i. elim i [
      | inl n ↦ elim (waited q n) [ inl w ↦ f.filled ts h q (inl w) | inr a ↦ names.filled ts (f.filled ts h k (inl (waits k waiting rest popped))) q a ]
      | inr j ↦ elim j [ inl e ↦ subst (λ n. FillsAll ts (number_term t n)) (sym e) (f.filled ts h k (inl (waits k waiting rest popped))) | inr r ↦ f.filled ts h q (inr r) ]
    ];
  }

pub found_end : (t : TableView) (root : ℕ) (waiting found : List ℕ) (top : ℕ) → IsFound t root waiting found top → waiting ≡ [] → IsOrder t root found
found_end t root waiting found top f e = record {
  ascends = f.ascends;
  there = λ k i. f.there k (inr i);
  closed = λ k u i h. let p = f.closed k u i h in (p.0, only p.0 p.1, p.2, p.3);
  root_there = only root f.root_there;
  filled = λ ts h k i. f.filled ts h k (inr i);
}
  where
    only : (q : ℕ) → In q waiting ⊎ In q found → In q found
    only q h = elim h [ inl i ↦ absurd (subst (In q) e i) | inr j ↦ j ]
