-- How a theory keeps up with a search, and what a saturated search shows. Source: Nieuwenhuis, Oliveras and Tinelli,
-- Solving SAT and SAT modulo theories, JACM 2006.
use Rattle.std.specs.Prelude.{◌≡◌, ◌+◌, ◌<◌, ◌≤◌, ℕ, suc, length, take, get_or, All, Option, Some, None}
use Rattle.term_core.specs.Tables.{TableView}
use Rattle.sat_budget.specs.declared.limits.Stop.{Stop}
use Rattle.sat_budget.specs.Budgets.{Spends, StopsBy}
use Rattle.proof_log.specs.declared.theory.Verdict.{Verdict}
use Rattle.proof_log.specs.declared.theory.Verdict.TheVariants.{Fine, Clash}
use Rattle.proof_log.specs.Logs.{IsLogOf}
use Rattle.proof_log.specs.Clashes.{IsClash}
use Rattle.proof_log.specs.Theories.{Mark, no_mark, TheoryView}
use Rattle.sat_trail.specs.Trails.{TrailView}
use Rattle.clause_store.specs.Propagating.{IsPropagated}
use Rattle.search_loop.specs.declared.search.Search.{Search}
use Rattle.search_loop.specs.declared.cdcl.End.{End}
use Rattle.search_loop.specs.declared.cdcl.End.TheVariants.{Saturated, Refuted, Stopped}
use Rattle.search_loop.specs.declared.cdcl.Answer.TheVariants.{Unsat, Unknown}
use Rattle.search_loop.specs.Waiting.{AreAssigned}
use Rattle.search_loop.specs.Search.{AreSatisfied, SearchFits}
use Rattle.search_loop.specs.Rounds.{Continues, HasLearned, ShowsAnswer}

-- A theory holds the oldest literals of a trail, and has a mark for each level, set before the level's decision.
pub record KeepsUp (v : TheoryView) (trail : TrailView) : Type 0 where
  -- it holds the oldest literals
  pub within : length v.held ≤ length trail.literals
  pub front : v.held ≡ take (length v.held) trail.literals
  -- there is a mark for each level above 0
  pub marked : length v.marks ≡ trail.level
  -- where the level's decision is, all before it was held
  pub starts : (k p : ℕ) → p < length trail.literals → get_or trail.reasons p None ≡ None → get_or trail.levels p 0
      ≡ k + 1 → (get_or v.marks k no_mark).held ≡ p
  -- and is
  pub reached : (p : ℕ) → p < length trail.literals → get_or trail.reasons p None ≡ None → p ≤ length v.held
  -- nothing is watched since
  pub watched : All (λ (m : Mark). m.watched ≡ length v.watched) v.marks

-- no mark of a theory was set at more than a later one
abbrev pub MarksRise : TheoryView → Type 0
MarksRise v = (j : ℕ) → suc j < length v.marks
    → ((get_or v.marks j no_mark).held ≤ (get_or v.marks (suc j) no_mark).held)
    × ((get_or v.marks j no_mark).watched ≤ (get_or v.marks (suc j) no_mark).watched)

-- A theory is asked by a search: it keeps up with its trail, and watches its terms.
pub record IsAsked (v : TheoryView) (x : Search) : Type 0 where
  -- it keeps up with the trail
  pub keeps : KeepsUp v x.trail
  -- it watches the terms that the search speaks of
  pub terms : v.watched ≡ x.terms.items
  -- the search knows how many literals it holds
  pub fed : x.fed ≡ length v.held

-- A search is saturated: each atom has a value, a literal of each clause holds, and the theory agrees with the trail.
pub record HasSaturated (t : TableView) (x : Search) (v : TheoryView) (agreed : Type 0) : Type 0 where
  -- it fits together
  pub ready : SearchFits t x
  -- the theory holds what the trail does
  pub held : v.held ≡ x.trail.literals
  -- it keeps up, and watches the search's terms
  pub asked : IsAsked v x
  -- each atom has a value
  pub assigned : AreAssigned x.atoms.items x.trail.literals
  -- of each clause a literal holds
  pub satisfied : AreSatisfied x.store.clauses x.trail.literals
  -- nothing is wrong with them
  pub agrees : agreed

-- A search over a table.
pub record SearchState : Type 0 where
  -- the table
  pub table : TableView
  -- the search
  pub search : Search

-- a table, and a search over it
abbrev pub state : TableView → Search → SearchState
state t x = record { table = t; search = x }

-- Propagation went on, and the theory was asked.
pub record HasLooked (old new : SearchState) (v : TheoryView) : Type 0 where
  -- it fits together
  pub ready : SearchFits new.table new.search
  -- the search is for the same terms
  pub continues : Continues old.table new.table old.search new.search
  -- the theory keeps up
  pub asked : IsAsked v new.search
  -- nothing was learned, and the theory may have made exchanges
  pub budget : Spends old.search.budget new.search.budget
  -- no literal was taken back
  pub literals : length old.search.trail.literals ≤ length new.search.trail.literals

-- what a look finds: nothing follows, and the theory holds all that holds and agrees; or the clause of a step is false
abbrev pub LookFinds : (old new : SearchState) → TheoryView → (agrees : Type 0) → Verdict → Type 0
LookFinds old new v agrees Fine = HasLooked old new v × IsPropagated new.search.store.clauses new.search.trail.literals
    × (v.held ≡ new.search.trail.literals) × agrees
LookFinds old new v agrees (Clash step) = HasLooked old new v
    × IsClash new.table new.search.log new.search.trail.literals step

-- what comes of a conflict: an answer is shown; or a clause is learned, for which the budget had room, and the theory
-- keeps up
abbrev pub ResolvesConflict : (old new : SearchState) → TheoryView → Option End → Type 0
ResolvesConflict old new v (Some Saturated) = ⊥
ResolvesConflict old new v (Some (Refuted step)) = ShowsAnswer old.table new.table old.search new.search (Unsat step)
ResolvesConflict old new v (Some (Stopped reason)) =
    ShowsAnswer old.table new.table old.search new.search (Unknown reason)
ResolvesConflict old new v None = HasLearned old.table new.table old.search new.search × IsAsked v new.search
    × (length old.search.budget.learned < old.search.budget.limit)

-- A search stopped in a theory's check: it is for the same terms, and what it has derived is kept.
pub record HasStopped (old new : SearchState) (v : TheoryView) : Type 0 where
  -- each step of the log is right
  pub right : IsLogOf new.table new.search.log
  -- it fits together
  pub ready : SearchFits new.table new.search
  -- the search is for the same terms
  pub continues : Continues old.table new.table old.search new.search
  -- which the theory watches
  pub terms : v.watched ≡ new.search.terms.items

-- P is so where a theory stopped for another reason than memory
abbrev pub OnStop : Type 0 → Stop → Type 0
OnStop P stop = StopsBy (λ s. P) stop

-- how a search ends: it is saturated, and is one for the same terms; or it shows of them what an answer does
abbrev pub EndsSearch : (old new : SearchState) → (search_saturated : Type 0) → End → Type 0
EndsSearch old new search_saturated Saturated = search_saturated × Continues old.table new.table old.search new.search
EndsSearch old new search_saturated (Refuted step) = ShowsAnswer old.table new.table old.search new.search (Unsat step)
EndsSearch old new search_saturated (Stopped reason) =
    ShowsAnswer old.table new.table old.search new.search (Unknown reason)
