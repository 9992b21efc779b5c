-- The order of a walk: a term and all its subterms by their numbers, arguments before their users.
use Rattle.std.specs.Prelude.{◌≡◌, ℕ, ◌<◌, ◌⊎◌, List, [], ◌∷◌, map, length, get_or, slice_index_or, All, Contains}
use Rattle.spec_sorts.specs.Terms.{Term, no_term}
use Rattle.spec_sorts.specs.Subsets.{arguments_of}
use Rattle.term_core.specs.declared.ids.TermId.{TermId}
use Rattle.term_core.specs.Tables.{TableView}
use Rattle.term_walks.specs.Filling.{FillsAll}

-- numbers of the code, in order
abbrev pub numbers_of : List TermId → List ℕ
numbers_of ids = map (λ (id : TermId). id.0) ids

-- the term of a number
abbrev pub number_term : TableView → ℕ → Term
number_term t k = slice_index_or t.terms k no_term

-- the number is one of these
abbrev pub In : ℕ → List ℕ → Type 0
In q [] = ⊥
In q (k ∷ ks) = (q ≡ k) ⊎ In q ks

-- each number is below those after it
abbrev pub Ascends : List ℕ → Type 0
Ascends [] = Unit {0}
Ascends (k ∷ ks) = ((q : ℕ) → In q ks → k < q) × Ascends ks

-- Numbers that came among others.
pub record AddsNumbers (old more new : List ℕ) : Type 0 where
  -- those that were there are there
  pub kept : (q : ℕ) → In q old → In q new
  -- those that came too
  pub there : (q : ℕ) → In q more → In q new
  -- and no others
  pub no_others : (q : ℕ) → In q new → In q old ⊎ In q more

-- Numbers that name the arguments of a number's term.
pub record NamesArguments (t : TableView) (k : ℕ) (ids : List ℕ) : Type 0 where
  -- they are smaller
  pub before : All (λ a. a < k) ids
  -- each argument is the term of one of them
  pub covers : (u : Term) → Contains (arguments_of (number_term t k)) u → (a : ℕ) × In a ids × (number_term t a ≡ u)
  -- what fills the parameters of the term fills theirs
  pub filled : (ts : List Term) → FillsAll ts (number_term t k) → (a : ℕ) → In a ids → FillsAll ts (number_term t a)

-- A term and all its subterms, by their numbers.
pub record IsOrder (t : TableView) (root : ℕ) (order : List ℕ) : Type 0 where
  -- smaller numbers come first
  pub ascends : Ascends order
  -- they are numbers of the table
  pub there : (k : ℕ) → In k order → k < length t.terms
  -- the arguments of each of the terms are among them, with smaller numbers
  pub closed : (k : ℕ) (u : Term) → In k order → Contains (arguments_of (number_term t k)) u → (a : ℕ) × In a order
      × (a < k) × (number_term t a ≡ u)
  -- the term is among them
  pub root_there : In root order
  -- what fills the parameters of the term fills theirs
  pub filled : (ts : List Term) → FillsAll ts (number_term t root) → (k : ℕ) → In k order
      → FillsAll ts (number_term t k)

-- the number is among the first so many
abbrev pub IsAmongFirst : List ℕ → ℕ → ℕ → Type 0
IsAmongFirst order count n = (j : ℕ) × (j < count) × (j < length order) × (get_or order j 0 ≡ n)

-- each argument of the number's term is among the first so many
abbrev pub HasArgumentsBefore : TableView → List ℕ → ℕ → ℕ → Type 0
HasArgumentsBefore t order count k = (u : Term) → Contains (arguments_of (number_term t k)) u → (j : ℕ) × (j < count)
    × (j < length order) × (get_or order j 0 < length t.terms) × (number_term t (get_or order j 0) ≡ u)
