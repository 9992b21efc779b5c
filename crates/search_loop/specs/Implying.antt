-- What the clause of a lemma implies under a trail, and what comes of it.
use Rattle.std.specs.Prelude.{◌≡◌, ◌≢◌, ◌⊎◌, ◌+◌, List, length, Contains}
use Rattle.spec_sorts.specs.Literals.{literals_of}
use Rattle.term_core.specs.declared.ids.TermId.{TermId}
use Rattle.term_core.specs.declared.ids.Lit.{Lit}
use Rattle.term_core.specs.Tables.{TableView, IsIn, literal_at, clause_at}
use Rattle.clause_literals.specs.Literals.{lit_complement}
use Rattle.proof_log.specs.declared.premises.StepId.{StepId}
use Rattle.proof_log.specs.Theories.{TheoryView}
use Rattle.sat_trail.specs.Trails.{TrailView}
use Rattle.clause_store.specs.Stores.{IsAdded}
use Rattle.clause_store.specs.Propagating.{AddsImplied}
use Rattle.conflict_learn.specs.Conflicts.{IsFalseAt}
use Rattle.search_loop.specs.declared.search.Search.{Search}
use Rattle.search_loop.specs.Waiting.{IsOpen}
use Rattle.search_loop.specs.Search.{SearchFits}
use Rattle.search_loop.specs.Rounds.{Continues}
use Rattle.search_loop.specs.Asking.{IsAsked}

-- A clause has a literal, by the numbers of its terms.
pub record IsLitOf (t : TableView) (ids : List TermId) (l : Lit) : Type 0 where
  -- its term is one of the table's
  pub in_table : IsIn t l.term
  -- what it means is in the clause
  pub there : Contains (literals_of (clause_at t ids)) (literal_at t l)

-- all literals of a clause are false but for one
abbrev pub AreFalseBut : TableView → List Lit → List TermId → Lit → Type 0
AreFalseBut t held ids l = (m : Lit) → IsLitOf t ids m → m ≢ l → Contains held (lit_complement m)

-- another literal of a clause is false since the trail's level
abbrev pub HasLate : TableView → TrailView → List TermId → Lit → Type 0
HasLate t v ids l = (m : Lit) × IsLitOf t ids m × (m ≢ l) × IsFalseAt v m v.level

-- A clause implies a literal under a trail, and was neither unit nor false before each decision: two of its literals
-- were not false there.
pub record IsImplying (t : TableView) (v : TrailView) (ids : List TermId) (l : Lit) : Type 0 where
  -- it has the literal
  pub has_it : IsLitOf t ids l
  -- which has no value
  pub is_open : IsOpen v l
  -- all others are false
  pub others_false : AreFalseBut t v.literals ids l
  -- there is no decision, or one of them is false since the last
  pub late : (v.level ≡ 0) ⊎ HasLate t v ids l

-- A literal is implied by the clause of a step, which came into the store.
pub record HasImplied (t : TableView) (step : StepId) (old new : Search) : Type 0 where
  -- store and trail alone changed
  pub same : new ≡ record old { store = new.store; trail = new.trail }
  -- the clause is the store's last
  pub added : IsAdded t old.log step old.store new.store
  -- a literal more holds, by its reason
  pub adds : AddsImplied new.store old.trail new.trail
  pub more : length new.trail.literals ≡ length old.trail.literals + 1
  -- it fits together
  pub ready : SearchFits t new
  -- the search is for the same terms
  pub continues : Continues t t old new
  -- a theory that it asks keeps up with it
  pub asked : (v : TheoryView) → IsAsked v old → IsAsked v new
