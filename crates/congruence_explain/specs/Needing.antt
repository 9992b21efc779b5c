-- What propagation finds in premises, how it leads to one that is false, and what the way back needs. Source: Zhang,
-- Madigan, Moskewicz and Malik, ICCAD 2001, for the way back; to go it to the end is own.
use Rattle.std.specs.Prelude.{◌≢◌, ◌<◌, ℕ, List, [], ◌++◌, map, filter, length, take, get_or, All, Contains}
use Rattle.std.specs.Prelude.{MatchOption}
use Rattle.spec_sorts.specs.Literals.{Literal, complement}
use Rattle.spec_proofs.specs.Resolution.{Derives}
use Rattle.term_core.specs.declared.ids.Lit.{Lit}
use Rattle.term_core.specs.Tables.{TableView, literal_at}
use Rattle.clause_literals.specs.Literals.{lit_complement, has, AreLiteralsIn}
use Rattle.clause_literals.specs.Statuses.{IsFalsified, IsUnit, IsUnresolved}
use Rattle.congruence_explain.specs.declared.chain.Implied.{Implied}
use Rattle.congruence_explain.specs.declared.chain.Left.{Left}
use Rattle.congruence_explain.specs.declared.chain.Left.TheVariants.{Nothing, One, More}
use Rattle.congruence_explain.specs.declared.chain.Found.{Found}

-- This literal of the clause is not false, whether it holds or not, and each other one is.
pub record HasOneLeft (held clause : List Lit) (l : Lit) : Type 0 where
  -- the clause has it
  pub there : Contains clause l
  -- it is not false
  pub not_false : Contains held (lit_complement l) → ⊥
  -- the others are
  pub others_false : (m : Lit) → Contains clause m → m ≢ l → Contains held (lit_complement m)

-- how many literals of the clause are not false
abbrev pub HasLeft : List Lit → List Lit → Left → Type 0
HasLeft held clause Nothing = IsFalsified held clause
HasLeft held clause (One l) = HasOneLeft held clause l
HasLeft held clause More = IsUnresolved held clause

-- at most one literal of the clause at that place is not false
abbrev pub IsFound : List Lit → List (List Lit) → Found → Type 0
IsFound held clauses f = (f.at < length clauses)
    × MatchOption f.open (IsFalsified held (get_or clauses f.at [])) (HasOneLeft held (get_or clauses f.at []))

-- A literal of the clause holds, and its complement does not.
pub record IsSpent (held clause : List Lit) : Type 0 where
  -- the literal
  pub literal : Lit
  -- the clause has it
  pub there : Contains clause literal
  -- it holds
  pub holds : Contains held literal
  -- it is not false
  pub not_false : Contains held (lit_complement literal) → ⊥

-- what holds at the start, and what was implied
abbrev pub reached : List Lit → List Implied → List Lit
reached start implied = start ++ map (λ (x : Implied). x.literal) implied

-- each is implied by a premise, under what holds before
abbrev pub AreImplied : List (List Lit) → List Lit → List Implied → Type 0
AreImplied premises start implied = (i : ℕ) (d : Implied) → i < length implied
    → Contains premises (get_or implied i d).clause.items
    × IsUnit (reached start (take i implied)) (get_or implied i d).clause.items (get_or implied i d).literal

-- What is implied leads to a premise that is false.
pub record LeadsTo (premises : List (List Lit)) (start : List Lit) (implied : List Implied) (last : List Lit) : Type
    0 where
  -- the premise
  pub there : Contains premises last
  -- what is implied
  pub steps : AreImplied premises start implied
  -- it is false
  pub fails : IsFalsified (reached start implied) last

-- the complement of each literal of some premise is derived
abbrev pub HasFalsePremise : List (List Literal) → List Literal → Type 0
HasFalsePremise premises assumed = (c : List Literal) × Contains premises c
    × ((m : Literal) → Contains c m → Derives complement premises assumed (complement m))

-- Premises over a table, and literals from which one of them comes to be false.
pub record IsRefuted (t : TableView) (premises : List (List Lit)) (start : List Lit) : Type 0 where
  -- the literals are the table's
  pub premises_in : All (AreLiteralsIn t) premises
  pub start_in : AreLiteralsIn t start
  -- what they mean
  pub refuted : HasFalsePremise (map (map (literal_at t)) premises) (map (literal_at t) start)

-- those literals that are false
abbrev pub standing : List Lit → List Lit → List Lit
standing held needed = filter (λ m. has held (lit_complement m)) needed
