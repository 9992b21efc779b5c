-- What is found already of the terms that are needed.
use Rattle.std.proofs.Common.{◌≡◌, ℕ, ◌<◌, ◌⊎◌, inl, inr, List, [], ◌∷◌, ◌++◌, length, All, refl, sym, subst, arith}
use Rattle.std.specs.Ordering.{nat_cmp}
use Rattle.std.specs.BTreeMap.Range.{IsLtBy}
use Rattle.term_core.specs.Tables.{TableView}
use Rattle.term_walks.specs.Orders.{In, AddsNumbers, Ascends}
use Rattle.term_walks.proofs.Among.{in_either, all_in}
use Rattle.term_walks.proofs.Found.{less_by, waits}
use Rattle.linear_form.specs.Walks.{needed_at, IsOrder}

-- Those found ascend, and those that wait are below them.
pub record IsFound (t : TableView) (root : ℕ) (waiting found : List ℕ) (top : ℕ) : Type 0 where
  pub ascends : Ascends found
  pub apart : (q k : ℕ) → In q waiting → In k found → q < k
  pub closed : (k a : ℕ) → In k found → In a (needed_at t k) → In a waiting ⊎ In a found
  pub there : (q : ℕ) → In q waiting ⊎ In q found → q < length t.terms
  pub root_there : In root waiting ⊎ In root found
  pub below : (q : ℕ) → In q waiting → q < top

pub found_first : (t : TableView) (root : ℕ) (old new : List ℕ) → old ≡ [] → AddsNumbers old (needed_at t root) new → All (λ a. a < root) (needed_at t root) → root < length t.terms → IsFound t root new (root ∷ []) root
found_first t root old new e adds before lt = record {
  ascends = (λ q j. absurd j, tt);
  apart = λ q k i j. elim j [ inl is ↦ subst (λ n. q < n) (sym is) (new_below q i) | inr r ↦ absurd r ];
  closed = λ k a i j. elim i [ inl is ↦ inl (adds.there a (subst (λ n. In a (needed_at t n)) is j)) | inr r ↦ absurd r ];
  there = λ q h. elim h [ inl i ↦ (let low = new_below q i in omega (arith, low, lt)) | inr j ↦ elim j [ inl is ↦ subst (λ n. n < length t.terms) (sym is) lt | inr r ↦ absurd r ] ];
  root_there = inr (inl refl);
  below = new_below;
}
  where
    new_below : (q : ℕ) → In q new → q < root
    new_below q i = elim (adds.no_others q i) [ inl r ↦ absurd (subst (In q) e r) | inr a ↦ all_in (λ a. a < root) q (needed_at t root) before a ]

pub k_there : (t : TableView) (root k : ℕ) (waiting rest found : List ℕ) (top : ℕ) → IsFound t root waiting found top → waiting ≡ rest ++ k ∷ [] → k < length t.terms
k_there t root k waiting rest found top f popped = f.there k (inl (waits k waiting rest popped))

pub k_below : (t : TableView) (root k : ℕ) (waiting rest found : List ℕ) (top : ℕ) → IsFound t root waiting found top → waiting ≡ rest ++ k ∷ [] → k < top
k_below t root k waiting rest found top f popped = f.below k (waits k waiting rest popped)

module _ (t : TableView) (root k : ℕ) (waiting rest new found : List ℕ) (top : ℕ) (f : IsFound t root waiting found top) (popped : waiting ≡ rest ++ k ∷ []) (low : All (λ q. IsLtBy nat_cmp q k) rest) (adds : AddsNumbers rest (needed_at t k) new) (before : All (λ a. a < k) (needed_at t k)) where
  new_below : (q : ℕ) → In q new → q < k
  new_below q i = elim (adds.no_others q i) [ inl r ↦ less_by q k (all_in (λ q. IsLtBy nat_cmp q k) q rest low r) | inr a ↦ all_in (λ a. a < k) q (needed_at t k) before a ]

  -- what waited waits, or is the one that was taken
  goes_on : (q : ℕ) → In q waiting → In q new ⊎ In q (k ∷ found)
  goes_on q i = elim (in_either q rest (k ∷ []) (subst (In q) popped i)) [
    | inl r ↦ inl (adds.kept q r)
    | inr e ↦ elim e [ inl is ↦ inr (inl is) | inr r ↦ absurd r ]
  ]

  stays : (q : ℕ) → In q waiting ⊎ In q found → In q new ⊎ In q (k ∷ found)
  stays q h = elim h [ inl i ↦ goes_on q i | inr j ↦ inr (inr j) ]

  pub found_more : IsFound t root new (k ∷ found) k
  found_more = record {
    ascends = (λ q j. f.apart k q (waits k waiting rest popped) j, f.ascends);
    apart = λ q j i h. elim h [ inl e ↦ subst (λ n. q < n) (sym e) (new_below q i) | inr r ↦ (let lt = new_below q i in let up = f.apart k j (waits k waiting rest popped) r in omega (arith, lt, up)) ];
    closed = λ j a i h. elim i [ inl e ↦ inl (adds.there a (subst (λ n. In a (needed_at t n)) e h)) | inr r ↦ stays a (f.closed j a r h) ];
    there = λ q h. elim h [ inl i ↦ (let lt = new_below q i in omega (arith, lt, (k_there t root k waiting rest found top f popped))) | inr i ↦ elim i [ inl e ↦ subst (λ n. n < length t.terms) (sym e) (k_there t root k waiting rest found top f popped) | inr r ↦ f.there q (inr r) ] ];
    root_there = stays root f.root_there;
    below = new_below;
  }

pub found_end : (t : TableView) (root : ℕ) (waiting found : List ℕ) (top : ℕ) → IsFound t root waiting found top → waiting ≡ [] → IsOrder t root found
found_end t root waiting found top f e = record {
  ascends = f.ascends;
  closed = λ k a i h. only a (f.closed k a i h);
  there = λ k i. f.there k (inr i);
  root_there = only root f.root_there;
}
  where
    only : (q : ℕ) → In q waiting ⊎ In q found → In q found
    only q h = elim h [ inl i ↦ absurd (subst (In q) e i) | inr j ↦ j ]
