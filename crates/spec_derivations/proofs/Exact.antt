-- Exact chains: how one is made, and what stands in none.
use Rattle.std.proofs.Common.{◌≡◌, ◌≢◌, ◌⊎◌, Bool, true, false, not, List, [], ◌∷◌, ◌++◌, map, Contains, inl, inr, refl, sym, ap, ◌∙◌, subst}
use Rattle.std.specs.Prelude.{◌↔◌, filter}
use Rattle.std.specs.List.{AllByRecursion}
use Rattle.std.proofs.lemmas.Bool.{false≢true, not-true}
use Rattle.std.proofs.lemmas.List.Elements.{All-contains, All-contains_itself, All-filter, filter_passes, Contains-append_left, Contains-append_right, Contains-append_cases}
use Rattle.spec_text.proofs.Members.{first, later, cases, none, only, in_filter, to_image}
use Rattle.spec_sorts.specs.Terms.{Term}
use Rattle.spec_sorts.specs.Literals.{Literal, complement}
use Rattle.spec_sorts.proofs.General.{complement-twice}
use Rattle.spec_proofs.specs.Resolution.{Derives, given as given_there, unit, Conflicts, false_clause, Resolves}
use Rattle.spec_derivations.specs.Learned.{same_literal}
use Rattle.spec_derivations.specs.ExactChains.{HasSame, IsExactBinary, AreGone, IsExactChain, begin, resolve, IsExactResolvent, AreExactResolvents, AreAlike, IsNoTautology}
use Rattle.spec_derivations.proofs.Learned.{literals_decide, decide_literals}

-- no literal is its own complement
pub own_complement : (l : Literal) → l ≡ complement l → ⊥
own_complement l e = go l.positive (ap (λ (x : Literal). x.positive) e)
  where
    go : (b : Bool) → b ≡ not b → ⊥
    go true h = false≢true (sym h)
    go false h = false≢true h

-- a literal is in a list or not
pub literal_in : (xs : List Literal) (l : Literal) → Contains xs l ⊎ (Contains xs l → ⊥)
literal_in [] l = inr (λ i. none l i)
literal_in (x ∷ xs) l = elim (decide_literals x l) [
  | inl e ↦ inl (subst (Contains (x ∷ xs)) e (first x xs))
  | inr ne ↦ elim (literal_in xs l) [
    | inl i ↦ inl (later x xs l i)
    | inr free ↦ inr (λ i. elim (cases x xs l i) [ inl e ↦ ne e | inr j ↦ free j ])
  ]
]

-- the literals but one
abbrev pub without : Literal → List Literal → List Literal
without l xs = filter (λ m. not (same_literal m l)) xs

other_passes : (m l : Literal) → m ≢ l → not (same_literal m l) ≡ true
other_passes m l ne = go (same_literal m l) (literals_decide m l).0
  where
    go : (b : Bool) → (b ≡ true → m ≡ l) → not b ≡ true
    go true is = absurd (ne (is refl))
    go false is = refl

pub in_without : (l : Literal) (xs : List Literal) (m : Literal) → Contains xs m → m ≢ l → Contains (without l xs) m
in_without l xs m i ne = in_filter (λ x. not (same_literal x l)) xs m i (other_passes m l ne)

pub from_without : (l : Literal) (xs : List Literal) (m : Literal) → Contains (without l xs) m → Contains xs m × (m ≢ l)
from_without l xs m i =
    let test : Literal → Bool = λ x. not (same_literal x l) in
    let passes = All-contains (λ x. test x ≡ true) (filter test xs) m (filter_passes test xs) i in (
      All-contains (Contains xs) (filter test xs) m (All-filter test (Contains xs) xs (All-contains_itself xs)) i,
      λ e. false≢true (sym (not-true (same_literal m l) passes) ∙ (literals_decide m l).1 e),
    )

-- what is left of two clauses that are resolved
abbrev pub left_of : Literal → List Literal → List Literal → List Literal
left_of pivot one other = without pivot one ++ without (complement pivot) other

pub left_is : (pivot : Literal) (one other : List Literal) (l : Literal) → Contains (left_of pivot one other) l ↔ ((Contains one l × (l ≢ pivot)) ⊎ (Contains other l × (l ≢ complement pivot)))
left_is pivot one other l = (
  λ i. elim (Contains-append_cases (without pivot one) (without (complement pivot) other) l i) [
    | inl a ↦ inl (from_without pivot one l a)
    | inr b ↦ inr (from_without (complement pivot) other l b)
  ],
  λ h. elim h [
    | inl a ↦ Contains-append_left (without pivot one) (without (complement pivot) other) l (in_without pivot one l a.0 a.1)
    | inr b ↦ Contains-append_right (without pivot one) (without (complement pivot) other) l (in_without (complement pivot) other l b.0 b.1)
  ],
)

module _ {L : Type 0} (negation : L → L) (Given : List L → Type 0) where
  -- a chain gives a clause in any order of its literals
  pub same_chain : (pivots one other : List L) → IsExactChain negation Given pivots one → HasSame one other → IsExactChain negation Given pivots other
  same_chain _ one other (begin c _ given same) e = begin c other given (λ l. (λ i. (e l).0 ((same l).0 i), λ i. (same l).1 ((e l).1 i)))
  same_chain _ one other (resolve pivot pivots so_far c _ chain given b gone) e =
      resolve pivot pivots so_far c other chain given
      (record { in_one = b.in_one; in_other = b.in_other; rest = λ l. (λ i. (b.rest l).0 ((e l).1 i), λ h. (e l).0 ((b.rest l).1 h)) })
      (λ l i. ((λ j. (gone l i).0 ((e l).1 j)), (λ j. (gone l i).1 ((e (negation l)).1 j))))

  -- each literal of what a chain gives is one of a given clause
  pub chain_literals : (pivots clause : List L) → IsExactChain negation Given pivots clause → (l : L) → Contains clause l → (c : List L) × Given c × Contains c l
  chain_literals _ clause (begin c _ given same) l i = (c, given, (same l).1 i)
  chain_literals _ clause (resolve pivot pivots so_far c _ chain given b gone) l i = elim ((b.rest l).0 i) [
    | inl h ↦ chain_literals pivots so_far chain l h.0
    | inr h ↦ (c, given, h.0)
  ]

-- what comes by a chain over some clauses comes by one over more
pub chain_more : {L : Type 0} (negation : L → L) (Given More : List L → Type 0) → ((c : List L) → Given c → More c) → (pivots clause : List L) → IsExactChain negation Given pivots clause → IsExactChain negation More pivots clause
chain_more negation Given More each _ clause (begin c _ given same) = begin c clause (each c given) same
chain_more negation Given More each _ clause (resolve pivot pivots so_far c _ chain given b gone) = resolve pivot pivots so_far c clause (chain_more negation Given More each pivots so_far chain) (each c given) b gone

pub resolvents_more : {L : Type 0} (negation : L → L) (Given More : List L → Type 0) → ((c : List L) → Given c → More c) → (cs : List (List L)) → AreExactResolvents negation Given cs → AreExactResolvents negation More cs
resolvents_more negation Given More each [] h = tt
resolvents_more negation Given More each (c ∷ cs) h = (
  (h.0.0, chain_more negation Given More each h.0.0 c h.0.1),
  resolvents_more negation (λ d. Given d ⊎ (d ≡ c)) (λ d. More d ⊎ (d ≡ c)) (λ d g. elim g [ inl old ↦ inl (each d old) | inr e ↦ inr e ]) cs h.1,
)

-- one that comes by a chain over given clauses and the earlier ones is one more
pub resolvents_pushed : {L : Type 0} (negation : L → L) (Given : List L → Type 0) (cs : List (List L)) (c : List L) → AreExactResolvents negation Given cs → IsExactResolvent negation (λ d. Given d ⊎ Contains cs d) c → AreExactResolvents negation Given (cs ++ c ∷ [])
resolvents_pushed negation Given [] c h x = (
  (x.0, chain_more negation (λ d. Given d ⊎ Contains [] d) Given (λ d g. elim g [ inl old ↦ old | inr i ↦ absurd (none d i) ]) x.0 c x.1),
  tt,
)
resolvents_pushed negation Given (e ∷ es) c h x = (
  h.0,
  resolvents_pushed negation (λ d. Given d ⊎ (d ≡ e)) es c h.1 (
    x.0,
    chain_more negation (λ d. Given d ⊎ Contains (e ∷ es) d) (λ d. (Given d ⊎ (d ≡ e)) ⊎ Contains es d) (λ d g. elim g [
      | inl old ↦ inl (inl old)
      | inr i ↦ elim (cases e es d i) [ inl s ↦ inl (inr (sym s)) | inr j ↦ inr j ]
    ]) x.0 c x.1,
  ),
)

module _ (Given : List Literal → Type 0) where
  -- where the atoms of each given clause are alike, so are those of what a chain gives
  pub chain_alike : (test : Term → Bool) → ((c : List Literal) → Given c → AreAlike test c) → (pivots clause : List Literal) → IsExactChain complement Given pivots clause → AreAlike test clause
  chain_alike test each _ clause (begin c _ given same) l m i j = each c given l m ((same l).1 i) ((same m).1 j)
  chain_alike test each _ clause (resolve pivot pivots so_far c _ chain given b gone) l m i j =
      let old = chain_alike test each pivots so_far chain in
      let new = each c given in
      elim ((b.rest l).0 i) [
        | inl h ↦ elim ((b.rest m).0 j) [
          | inl k ↦ old l m h.0 k.0
          | inr k ↦ old l pivot h.0 b.in_one ∙ new (complement pivot) m b.in_other k.0
        ]
        | inr h ↦ elim ((b.rest m).0 j) [
          | inl k ↦ new l (complement pivot) h.0 b.in_other ∙ old pivot m b.in_one k.0
          | inr k ↦ new l m h.0 k.0
        ]
      ]

  -- no tautology is resolved
  untaught : (pivot : Literal) (so_far c clause : List Literal) → IsExactBinary complement pivot so_far c clause → AreGone complement (pivot ∷ []) clause → IsNoTautology clause → IsNoTautology so_far × IsNoTautology c
  untaught pivot so_far c clause b gone free = (one, other)
    where
      none_there : (Contains clause pivot → ⊥) × (Contains clause (complement pivot) → ⊥)
      none_there = gone pivot (first pivot [])

      one : IsNoTautology so_far
      one l i j = elim (decide_literals l pivot) [
        | inl e ↦ none_there.1 ((b.rest (complement pivot)).1 (inl (subst (λ x. Contains so_far (complement x)) e j, λ s. own_complement pivot (sym s))))
        | inr ne ↦ elim (decide_literals (complement l) pivot) [
          | inl e ↦ none_there.1 (subst (Contains clause) (sym (complement-twice l) ∙ ap complement e) ((b.rest l).1 (inl (i, ne))))
          | inr other_ne ↦ free l ((b.rest l).1 (inl (i, ne))) ((b.rest (complement l)).1 (inl (j, other_ne)))
        ]
      ]

      other : IsNoTautology c
      other l i j = elim (decide_literals l (complement pivot)) [
        | inl e ↦
            let is : complement l ≡ pivot = ap complement e ∙ complement-twice pivot in
            none_there.0 ((b.rest pivot).1 (inr (subst (Contains c) is j, own_complement pivot)))
        | inr ne ↦ elim (decide_literals (complement l) (complement pivot)) [
          | inl e ↦
              let is : l ≡ pivot = sym (complement-twice l) ∙ ap complement e ∙ complement-twice pivot in
              none_there.0 (subst (Contains clause) is ((b.rest l).1 (inr (i, ne))))
          | inr other_ne ↦ free l ((b.rest l).1 (inr (i, ne))) ((b.rest (complement l)).1 (inr (j, other_ne)))
        ]
      ]

  -- what is no tautology comes by a chain over none
  pub chain_taught : (pivots clause : List Literal) → IsExactChain complement Given pivots clause → IsNoTautology clause → IsExactChain complement (λ c. Given c × IsNoTautology c) pivots clause
  chain_taught _ clause (begin c _ given same) free = begin c clause (given, λ l i j. free l ((same l).0 i) ((same (complement l)).0 j)) same
  chain_taught _ clause (resolve pivot pivots so_far c _ chain given b gone) free =
      let h = untaught pivot so_far c clause b (λ l i. gone l (subst (Contains (pivot ∷ pivots)) (only pivot l i) (first pivot pivots))) free in
      resolve pivot pivots so_far c clause (chain_taught pivots so_far chain h.0) (given, h.1) b gone

-- and so it is with chains one after the other
pub learned_alike : (test : Term → Bool) (Given : List Literal → Type 0) → ((c : List Literal) → Given c → AreAlike test c) → (learned : List (List Literal)) → AreExactResolvents complement Given learned → AllByRecursion (AreAlike test) learned
learned_alike test Given each [] h = tt
learned_alike test Given each (x ∷ xs) h =
    let this = chain_alike Given test each h.0.0 x h.0.1 in
    (this, learned_alike test (λ d. Given d ⊎ (d ≡ x)) (λ d g. elim g [ inl old ↦ each d old | inr e ↦ subst (AreAlike test) (sym e) this ]) xs h.1)

-- what a chain gives follows by propagation
module _ (premises : List (List Literal)) (assumed : List Literal) where
  chain_refutes : (pivots clause : List Literal) → IsExactChain complement (Contains premises) pivots clause → ((m : Literal) → Contains clause m → Derives complement premises assumed (complement m)) → Conflicts complement premises assumed
  chain_refutes _ clause (begin c _ given same) each = false_clause c given (λ m i. each m ((same m).0 i))
  chain_refutes _ clause (resolve pivot pivots so_far c _ chain given b gone) each =
      let derived : Derives complement premises assumed (complement pivot) = unit c (complement pivot) given b.in_other (λ m i ne. each m ((b.rest m).1 (inr (i, ne)))) in
      chain_refutes pivots so_far chain (λ m i. elim (decide_literals m pivot) [
        | inl e ↦ subst (λ (x : Literal). Derives complement premises assumed (complement x)) (sym e) derived
        | inr ne ↦ each m ((b.rest m).1 (inl (i, ne)))
      ])

pub exact_resolves : (premises : List (List Literal)) (clause : List Literal) → IsExactResolvent complement (Contains premises) clause → Resolves complement premises clause
exact_resolves premises clause h = chain_refutes premises (map complement clause) h.0 clause h.1 (λ m i. given_there (complement m) (to_image complement clause m i))
