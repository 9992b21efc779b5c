-- What comes up in the analysis of a conflict, how it is sorted, and how far the analysis has come.
use Rattle.std.specs.Prelude.{◌≡◌, ◌≢◌, ◌⊎◌, ◌<◌, ◌≤◌, ◌&&◌, nat_eq, if◌then◌else◌, ℕ, zero, suc, Bool, true, false}
use Rattle.std.specs.Prelude.{List, length, get_or, Contains, Some, None}
use Rattle.spec_sorts.specs.WellSorted.{IsFormulaOver}
use Rattle.spec_sorts.specs.Literals.{Literal, literal_of, literals_of}
use Rattle.term_core.specs.declared.ids.TermId.{TermId}
use Rattle.term_core.specs.declared.ids.Lit.{Lit}
use Rattle.term_core.specs.Tables.{TableView, IsIn, term_at, literal_at, clause_at, positive_literal}
use Rattle.clause_literals.specs.Literals.{lit_complement}
use Rattle.proof_log.specs.declared.premises.StepId.{StepId}
use Rattle.proof_log.specs.Logs.{IsFormulaIn, AreFormulasIn}
use Rattle.sat_trail.specs.Trails.{TrailView, no_lit, VariablesAreApart}
use Rattle.conflict_learn.specs.Conflicts.{Conflict, step_of, IsFalseAt}
use Rattle.conflict_learn.specs.Points.{level_at, Falsifies, IsMet, IsPoint, IsDropped, IsResolved, IsUsed, IsUip}
use Rattle.conflict_learn.specs.declared.meeting.Seen.{Seen}
use Rattle.conflict_learn.specs.declared.analysis.Analysis.{Analysis}
use Rattle.conflict_learn.specs.declared.dropping.LearnedParts.{LearnedParts}

-- The greatest level since which literals of these meanings are false, or 0 where there are none.
pub record IsGreatestOf (t : TableView) (v : TrailView) (ls : List Literal) (n : ℕ) : Type 0 where
  -- none is false only since a greater one
  pub greatest : (m : Lit) (k : ℕ) → IsIn t m.term → Contains ls (literal_at t m) → IsFalseAt v m k → k ≤ n
  -- and one is false since this one
  pub reached : (n ≡ 0) ⊎ ((m : Lit) × IsIn t m.term × Contains ls (literal_at t m) × IsFalseAt v m n)

-- the variable is marked
abbrev pub IsVariableMarked : List Bool → ℕ → Type 0
IsVariableMarked marks n = get_or marks n false ≡ true

-- the variable of the literal of a place is marked
abbrev pub IsMarkedAt : TrailView → List Bool → ℕ → Type 0
IsMarkedAt v marks p = IsVariableMarked marks (get_or v.literals p no_lit).term.0

-- a literal of the table that has this meaning is marked
abbrev pub IsMarkedFor : TableView → List Bool → Literal → Type 0
IsMarkedFor t marks x = (m : Lit) × IsIn t m.term × (literal_at t m ≡ x) × IsVariableMarked marks m.term.0

-- The variables of literals of these meanings are marked.
pub record MarksVariables (t : TableView) (ls : List Literal) (old new : List Bool) : Type 0 where
  -- there are as many variables
  pub size : length new ≡ length old
  -- what was marked stays so
  pub kept : (n : ℕ) → IsVariableMarked old n → IsVariableMarked new n
  -- each literal's variable is marked
  pub added : (x : Literal) → Contains ls x → IsMarkedFor t new x
  -- and no other
  pub only : (n : ℕ) → IsVariableMarked new n → IsVariableMarked old n
      ⊎ ((m : Lit) × IsIn t m.term × Contains ls (literal_at t m) × (m.term.0 ≡ n))

-- a false literal came up before, or a place before one makes it false
abbrev pub IsBefore : TrailView → ℕ → List Bool → Lit → Type 0
IsBefore v k marks m = IsVariableMarked marks m.term.0
    ⊎ ((q : ℕ) × (q < k) × (get_or v.literals q no_lit ≡ lit_complement m))

-- how many marked literals of a level are before a place
abbrev pub count_before : TrailView → List Bool → ℕ → ℕ → ℕ
count_before v marks n zero = 0
count_before v marks n (suc k) = if get_or marks (get_or v.literals k no_lit).term.0 false
    && nat_eq (get_or v.levels k 0) n then suc (count_before v marks n k) else count_before v marks n k

-- The literal of a place is marked, and not of the level.
pub record IsLower (v : TrailView) (n : ℕ) (marks : List Bool) (p : ℕ) : Type 0 where
  pub within : p < length v.literals
  pub is_marked : IsMarkedAt v marks p
  pub of_other : get_or v.levels p 0 ≢ n

-- What came up, and how it is sorted.
pub record Sorting : Type 0 where
  -- the marked variables
  pub marks : List Bool
  -- how many are of the level
  pub many : ℕ
  -- the others above level 0
  pub lower : List Lit
  -- their greatest level
  pub back : ℕ
  -- whether one is of level 0
  pub fixed : Bool

-- so it is with what an analysis has seen
abbrev pub sorting_of : Seen → Sorting
sorting_of a = record { marks = a.marks.items; many = a.many; lower = a.lower.items; back = a.back; fixed = a.fixed }

-- What came up is sorted: counted, where it is of the level and is before a place, and else listed, where it is above
-- level 0.
pub record Sorts (v : TrailView) (n k : ℕ) (a : Sorting) : Type 0 where
  pub within : k ≤ length v.literals
  pub counted : a.many ≡ count_before v a.marks n k
  -- the list has each complement once
  pub once : VariablesAreApart a.lower
  pub all : (p : ℕ) → IsLower v n a.marks p → 0 < get_or v.levels p 0
      → Contains a.lower (lit_complement (get_or v.literals p no_lit))
  pub only : (m : Lit) → Contains a.lower m → (p : ℕ) × IsLower v n a.marks p × (0 < get_or v.levels p 0)
      × (get_or v.literals p no_lit ≡ lit_complement m)
  -- the greatest level of these is known
  pub bounded : (p : ℕ) → IsLower v n a.marks p → get_or v.levels p 0 ≤ a.back
  pub reached : (a.back ≡ 0) ⊎ ((p : ℕ) × IsLower v n a.marks p × (get_or v.levels p 0 ≡ a.back))
  -- and whether one is of level 0
  pub has_fixed : (p : ℕ) → IsLower v n a.marks p → get_or v.levels p 0 ≡ 0 → a.fixed ≡ true

-- so it is with what was seen
abbrev pub AreSorted : TrailView → ℕ → ℕ → Seen → Type 0
AreSorted v n k a = Sorts v n k (sorting_of a)

-- a step is the conflict, or the reason of a literal that was replaced
abbrev pub IsPassed : Conflict → ℕ → StepId → Type 0
IsPassed c k s = (s ≡ c.clash) ⊎ IsResolved c k s

-- What is marked is what was met where literals from a place on were replaced, and the premises are the steps that were
-- passed.
pub record HasMet (c : Conflict) (k : ℕ) (marks : List Bool) (premises : List StepId) : Type 0 where
  -- what is marked was met
  pub marked : (p : ℕ) → p < length c.trail.literals → IsMarkedAt c.trail marks p → IsMet c k p
  -- what was met is marked
  pub met : (p : ℕ) → IsMet c k p → IsMarkedAt c.trail marks p
  -- the premises are the conflict and the reasons of what was replaced
  pub used : (s : StepId) → IsPassed c k s → Contains premises s
  pub no_others : (s : StepId) → Contains premises s → IsPassed c k s

-- An analysis has come down to a place.
pub record HasCome (c : Conflict) (n k : ℕ) (a : Sorting) (premises : List StepId) : Type 0 where
  -- what it has met
  pub reached : HasMet c k a.marks premises
  -- that is sorted
  pub sorted : Sorts c.trail n k a

-- so it is with an analysis
abbrev pub HasComeTo : Conflict → ℕ → ℕ → Analysis → Type 0
HasComeTo c n k a = HasCome c n k (sorting_of a.seen) a.premises.items

-- it has come to the point
abbrev pub HasPassed : Conflict → ℕ → Analysis → Type 0
HasPassed c n a = HasComeTo c n a.at a × IsPoint c n a.at

-- The literal is the newest before a place whose variable is marked.
pub record IsNewest (v : TrailView) (marks : List Bool) (k : ℕ) (l : Lit) : Type 0 where
  -- its place
  pub place : ℕ
  pub before : place < k
  -- it is there
  pub there : get_or v.literals place no_lit ≡ l
  -- it is marked
  pub is_marked : IsMarkedAt v marks place
  -- and no later one is
  pub newest : (p : ℕ) → place < p → p < k → IsMarkedAt v marks p → ⊥

-- The literals of level 0 were dropped down to a place, where literals from another place on were replaced.
pub record AreDropped (c : Conflict) (from k : ℕ) (marks : List Bool) (premises : List StepId) : Type 0 where
  -- what was used on the way to the point is among the premises
  pub used : (s : StepId) → IsPassed c from s → Contains premises s
  -- which are all used
  pub no_others : (s : StepId) → Contains premises s → IsUsed c from s
  -- what is left of level 0 is marked
  pub begun : (p : ℕ) → p < from → IsMet c from p → level_at c p ≡ 0 → IsMarkedAt c.trail marks p
  -- what is marked of level 0 is dropped
  pub marked : (p : ℕ) → p < length c.trail.literals → IsMarkedAt c.trail marks p → level_at c p ≡ 0
      → IsDropped c from p
  -- of what is marked from the place on the reason is among the premises
  pub has_reason : (p r : ℕ) → k ≤ p → p < length c.trail.literals → IsMarkedAt c.trail marks p → level_at c p ≡ 0
      → get_or c.trail.reasons p None ≡ Some r → Contains premises (step_of r)
  -- and its literals are marked
  pub reason_marked : (p r q : ℕ) → k ≤ p → p < length c.trail.literals → IsMarkedAt c.trail marks p → level_at c p ≡ 0
      → get_or c.trail.reasons p None ≡ Some r
      → Falsifies c q (step_of r) → IsMarkedAt c.trail marks q

-- The greatest level of a clause's literals that are not of a level, or 0 where there are none.
pub record IsBack (v : TrailView) (n : ℕ) (clause : List Lit) (back : ℕ) : Type 0 where
  -- none is false only since a greater one
  pub bounded : (m : Lit) (k : ℕ) → Contains clause m → IsFalseAt v m k → k ≢ n → k ≤ back
  -- and one is false since this one
  pub reached : (back ≡ 0) ⊎ ((m : Lit) × Contains clause m × IsFalseAt v m back × (back ≢ n))

-- what was found is the clause of the point, with the level to go back to
abbrev pub HasFound : Conflict → ℕ → LearnedParts → Type 0
HasFound c n f = IsUip c n f.clause.items f.premises.items × IsBack c.trail n f.clause.items f.back

-- A literal's term is a formula of the table's and no negation.
pub record IsBare (t : TableView) (l : Lit) : Type 0 where
  -- it is there
  pub there : IsIn t l.term
  -- it is a formula over the symbols
  pub formula : IsFormulaOver t.symbols (term_at t l.term)
  -- it is no negation
  pub bare : literal_of (term_at t l.term) ≡ positive_literal (term_at t l.term)

-- the number is that of a formula of the table, which states the literal
abbrev pub StatesLiteral : TableView → Literal → TermId → Type 0
StatesLiteral t x id = IsFormulaIn t id × (literal_of (term_at t id) ≡ x)

-- the numbers are those of formulas of the table, which state the literals
abbrev pub StateAll : TableView → List Literal → List TermId → Type 0
StateAll t xs ids = AreFormulasIn t ids × (literals_of (clause_at t ids) ≡ xs)
