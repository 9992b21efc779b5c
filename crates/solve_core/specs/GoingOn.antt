-- A search with both theories that can go on: after the beginning, and wherever equalities of shared terms came in.
use Rattle.std.specs.Prelude.{ℕ, ◌<◌, ◌≤◌, List}
use Rattle.spec_sorts.specs.Terms.{Term}
use Rattle.spec_sorts.specs.Subsets.{AreAmong}
use Rattle.spec_derivations.specs.Examples.{speaking}
use Rattle.term_core.specs.declared.ids.TermId.{TermId}
use Rattle.term_core.specs.Tables.{clause_at}
use Rattle.congruence_relation.specs.Relation.{AreFactsOf}
use Rattle.congruence.specs.Views.{theory_of}
use Rattle.simplex.specs.Views.{SimplexView}
use Rattle.simplex.specs.Checks.{Suits}
use Rattle.simplex.specs.Coming.{CameBy}
use Rattle.combined.specs.Views.{CombinedView}
use Rattle.search_loop.specs.Search.{SearchFits}
use Rattle.search_loop.specs.Asking.{SearchState, IsAsked}
use Rattle.search_loop.specs.Paying.{atoms_of, paid_by, IsPaid}
use Rattle.solve_core.specs.Sharing.{IsAskedOf, AreOpen}
use Rattle.solve_core.specs.Unspoken.{unspoken_in}

-- The terms are asserted in a search, with some interface equalities, and the numbers are those of their shared terms.
pub record IsAskedFor (ts : List Term) (shared : List TermId) (s : SearchState) : Type 0 where
  -- those equalities
  pub interface : List Term
  pub asked : IsAskedOf s.table shared (speaking ts interface) s.search

-- linear arithmetic came of all terms that the search speaks of, among any others, by the exchanges that are kept, in
-- no more runs than this
abbrev pub HasCome : SearchState → SimplexView → ℕ → Type 0
HasCome s v most = (ts : List Term) → AreAmong (clause_at s.table s.search.terms.items) ts
    → IsPaid (λ n. CameBy s.table ts n s.search.budget.exchanges v) most

-- A search of asserted terms, with both theories, where so many atoms may be held.
pub record IsSearching (ts : List Term) (shared : List TermId) (s : SearchState) (v : CombinedView)
    (held : ℕ) : Type 0 where
  -- it fits together
  pub ready : SearchFits s.table s.search
  -- the theories keep up, and are right over the table
  pub asked : IsAsked (theory_of v.congruence) s.search
  pub congruence : AreFactsOf s.table v.congruence.now.facts
  pub simplex : Suits v.simplex s.table
  -- it is asked of the terms
  pub terms : IsAskedFor ts shared s
  -- it grew or tried a literal so many times, no more than it has atoms, and pays for as much
  pub grown : ℕ
  pub few : grown ≤ atoms_of s.table s.search
  pub paid : HasCome s v.simplex (paid_by s.table s.search grown held)

-- it can go on from level 0, where none may be
abbrev pub CanGoOn : List Term → List TermId → SearchState → CombinedView → Type 0
CanGoOn ts shared s v = IsSearching ts shared s v 0

-- It rests: its theories agree with what holds, and differ on these pairs of shared terms, of whose equalities it does
-- not speak.
pub record HasRested (ts : List Term) (shared : List TermId) (s : SearchState) (v : CombinedView)
    (pairs : List (TermId × TermId)) : Type 0 where
  -- each of its atoms may be held
  pub searching : IsSearching ts shared s v (atoms_of s.table s.search)
  -- the pairs are open
  pub are_open : AreOpen s.table shared (speaking ts searching.terms.interface) pairs

-- It goes on where it rested, and of fewer equalities of shared terms it does not speak.
pub record GoesOn (ts : List Term) (shared : List TermId) (old new : SearchState) (v : CombinedView) : Type 0 where
  -- it can
  pub ready : CanGoOn ts shared new v
  -- fewer are left
  pub fewer : unspoken_in shared new < unspoken_in shared old
