-- Which variables wait to be decided, and what is decided next.
use Rattle.std.specs.Prelude.{◌≡◌, ◌<◌, ◌⊎◌, ℕ, List, Bool, true, false, [], ◌∷◌, ◌++◌, Contains, Option, Some, None}
use Rattle.std.specs.List.{sum_by}
use Rattle.term_core.specs.declared.ids.TermId.{TermId}
use Rattle.term_core.specs.declared.ids.Lit.{Lit}
use Rattle.sat_trail.specs.Trails.{TrailView, IsUnassigned}
use Rattle.variable_order.specs.Orders.{IsIn}

-- each literal is of one of the atoms
abbrev pub AreOfAtoms : List TermId → List Lit → Type 0
AreOfAtoms atoms held = (l : Lit) → Contains held l → Contains atoms l.term

-- a literal of the variable holds
abbrev pub IsAssigned : List Lit → TermId → Type 0
IsAssigned held v = (l : Lit) × Contains held l × (l.term ≡ v)

-- Each of the atoms waits, or a literal of it holds; and no other variable waits.
pub record AreWaiting (atoms : List TermId) (held : List Lit) (waiting : List Bool) : Type 0 where
  -- none of the atoms is forgotten
  pub each : (v : TermId) → Contains atoms v → IsIn waiting v ⊎ IsAssigned held v
  -- and those that wait are atoms
  pub only : (v : TermId) → IsIn waiting v → Contains atoms v

-- The literal is one of a variable, which has no value.
pub record IsOpen (trail : TrailView) (l : Lit) : Type 0 where
  -- there is the variable
  pub known : l.term.0 < trail.vars
  -- neither the literal holds nor its complement
  pub unassigned : IsUnassigned trail.literals l

-- the literal is one of the variable, without a value; there is none where a literal of the variable holds
abbrev pub IsDecision : List Lit → TermId → Option Lit → Type 0
IsDecision held v None = IsAssigned held v
IsDecision held v (Some l) = (l.term ≡ v) × IsUnassigned held l

-- each of the atoms has a value
abbrev pub AreAssigned : List TermId → List Lit → Type 0
AreAssigned atoms held = (v : TermId) → Contains atoms v → IsAssigned held v

-- which variables wait where a literal of an atom was chosen, and will hold; there is none where each of the atoms has
-- a value
abbrev pub Chooses : List TermId → List Lit → List Bool → Option Lit → Type 0
Chooses atoms held waiting None = AreAssigned atoms held × AreWaiting atoms held waiting
Chooses atoms held waiting (Some l) = Contains atoms l.term × AreWaiting atoms (held ++ l ∷ []) waiting

-- a variable counts where it waits
abbrev pub one_if : Bool → ℕ
one_if true = 1
one_if false = 0

-- how many variables wait
abbrev pub count : List Bool → ℕ
count waiting = sum_by one_if waiting
