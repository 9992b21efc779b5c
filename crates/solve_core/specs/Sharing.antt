-- Terms that functions and linear arithmetic share, by their numbers, and pairs of them. Source: Nelson and Oppen 1979.
use Rattle.std.specs.Prelude.{◌≡◌, ◌≢◌, ◌<◌, Bool, true, false, List, [], ◌∷◌, ◌++◌, length, All, Contains}
use Rattle.std.specs.Prelude.{if◌then◌else◌}
use Rattle.std.specs.List.{filter}
use Rattle.spec_sorts.specs.Terms.{Number, Head, Equal, Apply, Term, Terms, app, nil, cons, list_of, pair, sort_of}
use Rattle.spec_sorts.specs.Terms.{same_sort}
use Rattle.spec_derivations.specs.Problems.{Problem, subterms_in}
use Rattle.spec_derivations.specs.Orders.{whole_terms}
use Rattle.spec_causes.specs.Shared.{IsSharedAmong}
use Rattle.term_core.specs.declared.ids.TermId.{TermId}
use Rattle.term_core.specs.Tables.{TableView, AreIn, term_at, clause_at}
use Rattle.search_loop.specs.declared.search.Search.{Search}
use Rattle.search_loop.specs.Rounds.{IsSearch, HoldsApart}

-- The numbers are those of the terms that are shared among terms.
pub record AreSharedOf (t : TableView) (ts : List Term) (ids : List TermId) : Type 0 where
  -- each is the number of a term
  pub there : AreIn t ids
  -- each of these terms is shared
  pub only : (u : Term) → Contains (clause_at t ids) u → IsSharedAmong ts u
  -- and each shared term is one of them
  pub each : (u : Term) → IsSharedAmong ts u → Contains (clause_at t ids) u

-- the head is a declared symbol
abbrev pub is_declared : Head → Bool
is_declared (Apply s) = true
is_declared h = false

-- the term is Real
abbrev pub is_real : Term → Bool
is_real u = same_sort Number (sort_of u)

-- those of terms that are Real
abbrev pub reals_in : List Term → List Term
reals_in ts = filter is_real ts

-- a term with arguments, if it is Real
abbrev pub value_over : Terms → Term → List Term
value_over nil t = []
value_over (cons u us) t = reals_in (t ∷ [])

-- what a term shares: a declared symbol its Real arguments, and itself where it is Real and has arguments; another head
-- nothing
abbrev pub shared_by : Term → List Term
shared_by (app h us) = if is_declared h then reals_in (list_of us) ++ value_over us (app h us) else []

-- Numbers came, which are those of terms, in order.
pub record AddsSharedTerms (t : TableView) (old new : List TermId) (ts : List Term) : Type 0 where
  -- these came
  pub added : List TermId
  pub is : new ≡ old ++ added
  -- each is the number of a term
  pub there : AreIn t added
  -- and these are the terms
  pub are : clause_at t added ≡ ts

-- A search is asked a problem with interface equalities, and the numbers are those of the shared terms.
pub record IsAskedOf (t : TableView) (ids : List TermId) (p : Problem) (x : Search) : Type 0 where
  -- it is asked the problem
  pub asked : IsSearch t p [] x
  -- these are shared
  pub shared : AreSharedOf t (subterms_in p) ids
  -- and of the interface equalities those of elements are facts
  pub apart : HoldsApart t p [] x

-- Two of the numbers, of different terms, of whose equality a search of a problem does not speak.
pub record IsOpen (t : TableView) (ids : List TermId) (p : Problem) (x : TermId × TermId) : Type 0 where
  -- the one
  pub one : Contains ids x.0
  -- and the other
  pub other : Contains ids x.1
  -- they are not the same
  pub different : term_at t x.0 ≢ term_at t x.1
  -- their equality is not spoken of
  pub unspoken : Contains (whole_terms p) (pair Equal (term_at t x.0) (term_at t x.1)) → ⊥

-- so are all pairs, of which there is one
abbrev pub AreOpen : TableView → List TermId → Problem → List (TermId × TermId) → Type 0
AreOpen t ids p xs = All (IsOpen t ids p) xs × (0 < length xs)
