-- What a budget holds, what comes of a conflict and of an exchange, and what a theory spends.
use Rattle.std.specs.Prelude.{⊤, ◌≡◌, ℕ, ◌<◌, ◌++◌, List, [], ◌∷◌, length, map, Vec, Result, Ok, Err}
use Rattle.std.specs.declared.alloc.Global.{Global}
use Rattle.term_core.specs.declared.ids.Lit.{Lit}
use Rattle.sat_budget.specs.declared.limits.Strain.{Strain}
use Rattle.sat_budget.specs.declared.limits.Stop.{Stop}
use Rattle.sat_budget.specs.declared.limits.Stop.TheVariants.{Strained}
use Rattle.sat_budget.specs.declared.limits.Stop.TheVariants as stops
use Rattle.sat_budget.specs.declared.limits.BudgetStop.{BudgetStop}
use Rattle.sat_budget.specs.declared.limits.BudgetStop.TheVariants.{Spent, Memory}
use Rattle.no_memory.specs.declared.NoMemory.{NoMemory}

-- each vector's list
abbrev pub lists : {T : Type 0} → List (Vec T Global) → List (List T)
lists vs = map (λ v. v.items) vs

-- The limit of a search on conflicts, the clauses that it has learned, and the exchanges that it has made.
pub record BudgetView : Type 0 where
  -- how many clauses may be learned
  pub limit : ℕ
  -- the learned clauses, oldest first
  pub learned : List (List Lit)
  -- the exchanges, oldest first: the variable that left the basis, and the one that entered it
  pub exchanges : List (ℕ × ℕ)

-- what no place has
abbrev pub no_exchange : ℕ × ℕ
no_exchange = (0, 0)

-- a clause is learned last where there is room for it; it is refused where there is none, with the limit; where memory
-- runs out, nothing changes
abbrev pub Learns : BudgetView → List Lit → Result (Unit {0}) BudgetStop → BudgetView → Type 0
Learns old clause (Ok _) new = (length old.learned < old.limit)
    × (new ≡ record old { learned = old.learned ++ clause ∷ [] })
Learns old clause (Err (Spent n)) new = (length old.learned ≡ old.limit) × (n ≡ old.limit) × (new ≡ old)
Learns old clause (Err Memory) new = (length old.learned < old.limit) × (new ≡ old)

-- an exchange is kept last; where memory runs out, nothing changes
abbrev pub Exchanges : BudgetView → ℕ × ℕ → Result (Unit {0}) NoMemory → BudgetView → Type 0
Exchanges old pair (Ok _) new = new ≡ record old { exchanges = old.exchanges ++ pair ∷ [] }
Exchanges old pair (Err e) new = new ≡ old

-- exchanges may have come after those that there were; nothing else changes
abbrev pub Spends : BudgetView → BudgetView → Type 0
Spends old new = (more : List (ℕ × ℕ)) × (new ≡ record old { exchanges = old.exchanges ++ more })

-- what shows a stop of a theory's call: what is to be shown of an overflow; memory may run out anywhere
abbrev pub StopsBy : (may_overflow : Strain → Type 0) → Stop → Type 0
StopsBy may_overflow (Strained s) = may_overflow s
StopsBy may_overflow stops.Memory = ⊤
