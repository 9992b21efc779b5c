-- The first expression that is not true, by the numbers of terms.
use Rattle.std.specs.Prelude.{◌≡◌, ◌<◌, ◌+◌, ◌-◌, ℕ, true, List, [], ◌∷◌, drop, Option, Some, None, Ok}
use Rattle.spec_sorts.specs.Terms.{And, Term, of}
use Rattle.spec_sorts.specs.Values.{Value, is_true, Interpretation}
use Rattle.spec_sorts.specs.BoundedValues.{bounded_value}
use Rattle.spec_model_files.specs.Faults.{ModelFault, model_fault}
use Rattle.spec_model_files.specs.Verdicts.{untrue_by, first_of}
use Rattle.term_core.specs.declared.ids.TermId.{TermId}
use Rattle.term_core.specs.Tables.{TableView, term_at, clause_at}
use Rattle.script_standing.specs.declared.standing.Expression.{Expression}
use Rattle.model_judge.specs.declared.untrue.Untrue.{Untrue}
use Rattle.model_judge.specs.declared.untrue.Round.{Round}
use Rattle.model_judge.specs.declared.untrue.Round.TheVariants as rounds

-- the fault that the code tells of an expression
abbrev pub untrue_view : Untrue → ModelFault
untrue_view u = model_fault u.at u.kind

-- the fault of an expression under an interpretation
abbrev pub untrue_at : TableView → Interpretation → Expression → Option ModelFault
untrue_at t i e = untrue_by e.at (bounded_value i [] (term_at t e.term))

-- the fault of the first expression that is not true, or none
unfoldable pub first_untrue_at : TableView → Interpretation → List Expression → Option ModelFault
first_untrue_at t i [] = None
first_untrue_at t i (e ∷ es) = first_of (untrue_at t i e) (first_untrue_at t i es)

-- the conjunction of terms
abbrev pub conjunction_at : TableView → List TermId → Term
conjunction_at t ids = of And (clause_at t ids)

-- the term has the value true, and no operation of it leaves the bound on fractions
abbrev pub IsTrueAt : Interpretation → Term → Type 0
IsTrueAt i u = (v : Value) × (bounded_value i [] u ≡ Ok v) × (is_true v ≡ true)

-- the first one that is not true, from a place on, was found; or it is that from a later place on
abbrev pub IsRound : TableView → Interpretation → List Expression → ℕ → Round → Type 0
IsRound t i es k (rounds.Found u) = first_untrue_at t i (drop k es) ≡ Some (untrue_view u)
IsRound t i es k (rounds.Next next size) = first_untrue_at t i (drop k es) ≡ first_untrue_at t i (drop next es)

-- fewer are left after the next place than after this one, or fewer are looked at
abbrev pub IsLater : ℕ → ℕ → ℕ → Round → Type 0
IsLater count k step (rounds.Found u) = Unit {0}
IsLater count k step (rounds.Next next size) = (count - next) + size < (count - k) + step
