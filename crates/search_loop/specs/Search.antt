-- What a search keeps: clauses by their steps, and literals that hold with the reasons why.
use Rattle.std.specs.Prelude.{◌≡◌, ◌≢◌, ◌<◌, ◌≤◌, ℕ, List, [], length, take, get_or, map, All, Contains, None}
use Rattle.std.specs.List.{AllPairs}
use Rattle.spec_sorts.specs.Literals.{Literal}
use Rattle.spec_sorts.specs.Subsets.{IsClosed}
use Rattle.term_core.specs.declared.ids.TermId.{TermId}
use Rattle.term_core.specs.declared.ids.Lit.{Lit}
use Rattle.term_core.specs.Tables.{TableView, clause_at, literal_at}
use Rattle.clause_literals.specs.Statuses.{IsSatisfied}
use Rattle.clause_literals.specs.Literals.{AreLiteralsIn, LiteralsMean}
use Rattle.proof_log.specs.declared.premises.StepId.{StepId}
use Rattle.proof_log.specs.Logs.{Logged, named, logged_at, IsLogOf}
use Rattle.proof_log.specs.Theories.{IsTermIn, IsAtomIn}
use Rattle.sat_trail.specs.Trails.{TrailView, no_lit, HasSame}
use Rattle.clause_store.specs.Stores.{StoreView, no_step, LiteralsAreBelow, HasSeen}
use Rattle.clause_store.specs.Propagating.{AreImplied, IsPropagated}
use Rattle.conflict_learn.specs.Conflicts.{Conflict}
use Rattle.search_loop.specs.declared.search.Search.{Search}
use Rattle.search_loop.specs.Waiting.{AreWaiting}

-- the literals of lists, as the table means them
abbrev pub images : TableView → List (List Lit) → List (List Literal)
images t cs = map (map (literal_at t)) cs

-- each literal's term is one of the table's
abbrev pub AreAllOf : TableView → List (List Lit) → Type 0
AreAllOf t cs = All (AreLiteralsIn t) cs

-- of each clause a literal holds
abbrev pub AreSatisfied : List (List Lit) → List Lit → Type 0
AreSatisfied clauses held = (c : List Lit) → Contains clauses c → IsSatisfied held c

-- Each clause has the literals of its step's.
pub record DerivesClauses (t : TableView) (log : List Logged) (s : StoreView) : Type 0 where
  -- there are as many steps
  pub paired : length s.steps ≡ length s.clauses
  -- each is one of the log's
  pub there : (k : ℕ) → k < length s.clauses → (get_or s.steps k no_step).0 < length log
  -- its clause has these literals
  pub same : (k : ℕ) → k < length s.clauses
      → LiteralsMean t (get_or s.clauses k []) (clause_at t (named (logged_at log (get_or s.steps k no_step))))

-- A trail came to have a variable for each term of the table, at least, and is the same else.
pub record Reaches (t : TableView) (v w : TrailView) : Type 0 where
  -- the literals are the same
  pub same : HasSame v w
  -- there are no fewer variables, and as many as terms
  pub more : v.vars ≤ w.vars
  pub vars : length t.terms ≤ w.vars
  -- the same are marked as propagated
  pub propagated : w.propagated ≡ v.propagated

-- Where a literal was decided, propagation was quiet, and it is one of an atom.
pub record AreDecided (atoms : List TermId) (clauses : List (List Lit)) (v : TrailView) : Type 0 where
  -- nothing followed from the clauses before it
  pub quiet : (p : ℕ) → p < length v.literals → get_or v.reasons p None ≡ None
      → IsPropagated clauses (take p v.literals)
  -- its term is one of the atoms
  pub of_atoms : (p : ℕ) → p < length v.literals → get_or v.reasons p None ≡ None
      → Contains atoms (get_or v.literals p no_lit).term

-- Of some terms the atoms: those of sort Bool that are no negations.
pub record AreAtomsAmong (t : TableView) (terms atoms : List TermId) : Type 0 where
  -- each term that is an atom is one of these
  pub each : (id : TermId) → Contains terms id → IsAtomIn t id → Contains atoms id
  -- each of these is one of the terms
  pub among : (id : TermId) → Contains atoms id → Contains terms id
  -- and an atom
  pub only : All (IsAtomIn t) atoms

-- The terms are over the table's symbols, with each its arguments, and the atoms are theirs.
pub record AreAtomsOf (t : TableView) (terms atoms : List TermId) : Type 0 where
  -- they are over the table's symbols
  pub there : All (IsTermIn t) terms
  -- the arguments of each are among them
  pub closed : IsClosed (clause_at t terms)
  -- no number stands twice
  pub once : AllPairs (λ (i j : TermId). i ≢ j) terms
  -- the atoms are these
  pub chosen : AreAtomsAmong t terms atoms

-- each literal of the clauses is of one of the atoms
abbrev pub AreCovered : List TermId → List (List Lit) → Type 0
AreCovered atoms clauses = (c : List Lit) (l : Lit) → Contains clauses c → Contains c l → Contains atoms l.term

-- What a search has fits together over a table, whatever its terms are.
pub record SearchFits (t : TableView) (x : Search) : Type 0 where
  -- each step of the log is right
  pub right : IsLogOf t x.log
  -- each clause has the literals of its step's
  pub derives : DerivesClauses t x.log x.store
  -- the trail has a variable for each term of the clauses
  pub known : LiteralsAreBelow x.store x.trail.vars
  -- what the trail has marked as propagated, the store has seen
  pub seen : HasSeen x.store x.trail
  -- each reason is that of a clause whose others were false
  pub implied : AreImplied x.store x.trail
  -- each decision was made at quiet
  pub decided : AreDecided x.atoms.items x.store.clauses x.trail
  -- the atoms are those of the terms
  pub atoms_are : AreAtomsOf t x.terms.items x.atoms.items
  -- each of the terms has a variable
  pub variables : All (λ (id : TermId). id.0 < x.trail.vars) x.terms.items
  -- the clauses are over the atoms
  pub covered : AreCovered x.atoms.items x.store.clauses
  -- those without a value wait to be decided
  pub waiting : AreWaiting x.atoms.items x.trail.literals x.decider
  -- for each variable it is known whether it waits
  pub sized : length x.decider ≡ x.trail.vars
  -- what was learned is over the table
  pub learned : AreAllOf t x.budget.learned

-- a conflict of a search, with what it is to be understood by
abbrev pub conflict_of : TableView → Search → StepId → Conflict
conflict_of t x clash = record { table = t; log = x.log; trail = x.trail; clash = clash }
