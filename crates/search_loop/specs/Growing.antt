-- How a search grows: terms come in of which it did not speak, with their clauses.
use Rattle.std.specs.Prelude.{◌≡◌, List, [], ◌++◌, length, All}
use Rattle.spec_sorts.specs.Terms.{Term}
use Rattle.spec_sorts.specs.Literals.{Literal}
use Rattle.spec_derivations.specs.Problems.{Problem, subterms_in}
use Rattle.spec_causes.specs.Shared.{IsSharedEquality}
use Rattle.spec_interfaces.specs.Interfaces.{speaking_of}
use Rattle.term_core.specs.declared.ids.TermId.{TermId}
use Rattle.term_core.specs.declared.ids.Lit.{Lit}
use Rattle.term_core.specs.Tables.{TableView, declared_in, clause_at, Extends}
use Rattle.proof_log.specs.Logs.{Logged}
use Rattle.proof_log.specs.declared.premises.StepId.{StepId}
use Rattle.term_clauses.specs.SpokenTerms.{problem_in}
use Rattle.sat_budget.specs.declared.limits.Limits.{Limits}
use Rattle.sat_trail.specs.Trails.{TrailView, HasSame}
use Rattle.clause_store.specs.Stores.{StoreView, HasSeen}
use Rattle.clause_store.specs.Propagating.{AreImplied}
use Rattle.search_loop.specs.declared.search.Search.{Search}
use Rattle.search_loop.specs.Search.{images, SearchFits, DerivesClauses}
use Rattle.search_loop.specs.Appending.{Appends}
use Rattle.search_loop.specs.Rounds.{IsSearch, HoldsApart, HasLimit}
use Rattle.search_loop.specs.Asking.{SearchState}

-- A search speaks of nothing yet.
pub record IsBlank (x : Search) : Type 0 where
  -- nothing is derived
  pub log : x.log ≡ []
  pub clauses : x.store.clauses ≡ []
  -- there is no term
  pub terms : x.terms.items ≡ []
  -- and nothing was learned
  pub learned : x.budget.learned ≡ []
  -- no check was before
  pub since : x.since ≡ 0

-- An empty search, under these limits.
pub record IsEmptySearch (limits : Limits) (x : Search) : Type 0 where
  -- it speaks of nothing
  pub blank : IsBlank x
  -- it fits together over each table
  pub ready : (t : TableView) → SearchFits t x
  -- it has no literals
  pub empty : x.trail.literals ≡ []
  pub level : x.trail.level ≡ 0
  pub fed : x.fed ≡ 0
  -- the budget has the limit
  pub limit_is : HasLimit limits x.budget
  -- no exchange was made
  pub unspent : x.budget.exchanges ≡ []

-- A check of a search has done nothing yet.
pub record IsFresh (x : Search) : Type 0 where
  -- there are no literals
  pub empty : x.trail.literals ≡ []
  pub level : x.trail.level ≡ 0
  pub fed : x.fed ≡ 0
  -- nothing was learned, and no exchange made
  pub unlearned : x.budget.learned ≡ []
  pub unspent : x.budget.exchanges ≡ []

-- A further check of a search starts, under these limits: what there is stays, but the budget is new, and no literal
-- holds.
pub record HasStarted (limits : Limits) (old new : Search) : Type 0 where
  -- it has done nothing
  pub fresh : IsFresh new
  -- the budget has the limit
  pub limit_is : HasLimit limits new.budget
  -- log, clauses and terms are the same, and so are the variables
  pub log : new.log ≡ old.log
  pub store : new.store ≡ old.store
  pub terms : new.terms ≡ old.terms
  pub atoms : new.atoms ≡ old.atoms
  pub vars : new.trail.vars ≡ old.trail.vars
  -- the check begins after all steps that there are
  pub since : new.since ≡ length old.log
  -- it fits together
  pub ready : (t : TableView) → SearchFits t old → SearchFits t new
  -- what was learned is learned earlier
  pub search : (t : TableView) (p : Problem) (earlier : List (List Literal)) → IsSearch t p earlier old
      → IsSearch t p (earlier ++ images t old.budget.learned) new
  -- and facts stay
  pub apart : (t : TableView) (p : Problem) (earlier : List (List Literal)) → HoldsApart t p earlier old
      → HoldsApart t p (earlier ++ images t old.budget.learned) new

-- A search that is asked a problem begins, after what earlier checks learned.
pub record IsBegun (t : TableView) (p : Problem) (earlier : List (List Literal)) (x : Search) : Type 0 where
  -- it fits together
  pub ready : SearchFits t x
  -- it has no literals yet
  pub empty : x.trail.literals ≡ []
  pub level : x.trail.level ≡ 0
  pub fed : x.fed ≡ 0
  -- it is asked the problem
  pub search : IsSearch t p earlier x
  -- nothing was learned, and no exchange made
  pub unlearned : x.budget.learned ≡ []
  pub unspent : x.budget.exchanges ≡ []

-- the problem with more asserted terms, and more interface equalities
abbrev pub asserting_too : Problem → (roots more : List Term) → Problem
asserting_too p roots more = record {
  asserted = p.asserted ++ roots;
  assumed = p.assumed;
  interface = p.interface ++ more;
}

-- The problem of a search that grows by roots, which are asserted, and by interface equalities; what earlier checks
-- learned stays.
pub data GrowsTo (t : TableView) (x : Search) (roots interface : List TermId) (earlier : List (List Literal))
    (p : Problem) : Type 0 where
  -- it spoke of nothing
  begins : IsBlank x → earlier ≡ [] → p ≡ problem_in t roots interface → GrowsTo t x roots interface earlier p
  -- it was asked a problem, and grows by interface equalities alone
  goes_on : (q : Problem) → IsSearch t q earlier x → roots ≡ []
      → p ≡ speaking_of q (clause_at t interface)
      → GrowsTo t x roots interface earlier p
  -- it was asked a problem, and its check has learned nothing yet
  asserts : (q : Problem) → IsSearch t q earlier x → x.budget.learned ≡ []
      → p ≡ asserting_too q (clause_at t roots) (clause_at t interface)
      → GrowsTo t x roots interface earlier p

-- Terms came into a search, and their clauses; what was learned stays, and so do the literals.
pub record HasGrown (old new : SearchState) (roots interface : List TermId) : Type 0 where
  -- the table has all that it had
  pub table : Extends old.table new.table
  -- the sorts and symbols are the same
  pub declared : declared_in new.table ≡ declared_in old.table
  -- it fits together
  pub ready : SearchFits new.table new.search
  -- the same literals hold, since the same levels
  pub trail : HasSame old.search.trail new.search.trail
  pub fed : new.search.fed ≡ old.search.fed
  -- nothing was spent
  pub budget : new.search.budget ≡ old.search.budget
  -- what was logged stays
  pub logged : List Logged
  pub log : new.search.log ≡ old.search.log ++ logged
  -- the new terms come last
  pub more : List TermId
  pub terms : new.search.terms.items ≡ old.search.terms.items ++ more
  -- so do their clauses
  pub appended : Appends old.search new.search
  -- it is asked the problem that it grew to
  pub search : (p : Problem) (earlier : List (List Literal))
      → GrowsTo old.table old.search roots interface earlier p → IsSearch new.table p earlier new.search
  -- where only equalities of shared numbers came, its facts stay
  pub apart : (q : Problem) (earlier : List (List Literal)) → IsSearch old.table q earlier old.search
      → HoldsApart old.table q earlier old.search → roots ≡ []
      → All (IsSharedEquality (subterms_in q)) (clause_at old.table interface)
      → HoldsApart new.table (speaking_of q (clause_at old.table interface)) earlier new.search
  -- and where roots came, too
  pub apart_from_roots : (q : Problem) (earlier : List (List Literal)) → IsSearch old.table q earlier old.search
      → HoldsApart old.table q earlier old.search
      → All (IsSharedEquality (subterms_in (asserting_too q (clause_at old.table roots) [])))
      (clause_at old.table interface)
      → HoldsApart new.table (asserting_too q (clause_at old.table roots) (clause_at old.table interface)) earlier
      new.search

-- The clauses of steps came into a store, last, in their order.
pub record StoresAll (t : TableView) (log : List Logged) (steps : List StepId) (old new : StoreView) : Type 0 where
  -- these clauses
  pub more : List (List Lit)
  pub clauses : new.clauses ≡ old.clauses ++ more
  -- are those of the steps
  pub steps_are : new.steps ≡ old.steps ++ steps
  pub derives : DerivesClauses t log old → DerivesClauses t log new
  -- what is marked as propagated was seen, and reasons stay such
  pub seen : (v : TrailView) → HasSeen old v → HasSeen new v
  pub implied : (v : TrailView) → length old.steps ≡ length old.clauses → AreImplied old v → AreImplied new v
