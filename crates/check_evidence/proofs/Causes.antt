-- The causes of `unknown` that a search shows, without the basis and the values that come with them.
use Rattle.std.proofs.Common.{ℕ, List}
use Rattle.spec_numbers.specs.Bounds.{Overflow}
use Rattle.spec_derivations.specs.Problems.{Problem}
use Rattle.spec_simplex.specs.Overflows.{IsOverflow}
use Rattle.spec_causes.specs.Checks as causes
use Rattle.ratio128.specs.Meant.{overflow}
use Rattle.sat_budget.specs.declared.limits.Strain.{Strain}
use Rattle.search_loop.specs.Stops.{IsOverflowed, forming, ordering, growing, reckoning}

-- what a search comes to is an operation that leaves the bound
abbrev pub AreOverflows : Type 0
AreOverflows = (p : Problem) (l : ℕ) (es : List (ℕ × ℕ)) (o : Overflow) → causes.IsOverflowed p l es o → IsOverflow o

pub cause_of : (p : Problem) (l : ℕ) (es : List (ℕ × ℕ)) (s : Strain) → IsOverflowed p l es s → causes.IsOverflowed p l es (overflow s.wide)
cause_of p l es s (forming unlearned none f basis) = causes.forming unlearned none f
cause_of p l es s (ordering unlearned none o basis) = causes.ordering unlearned none o
cause_of p l es s (growing e o basis) = causes.growing e.tableau e.runs e.reached e.few o
cause_of p l es s (reckoning x runs at few may_overflow basis) = causes.reckoning x runs at few may_overflow
