-- What is answered to a stop.
use Rattle.std.specs.Prelude.{Result, Ok, Err, IfOk}
use Rattle.std.proofs.Common.{ℕ, List, sym, subst}
use Rattle.spec_sorts.specs.Terms.{Term}
use Rattle.no_memory.specs.declared.NoMemory.{NoMemory}
use Rattle.sat_budget.specs.declared.limits.Stop.{Stop}
use Rattle.sat_budget.specs.declared.limits.Stop.TheVariants as stops
use Rattle.search_loop.specs.declared.cdcl.Answer.{Answer}
use Rattle.search_loop.specs.Asking.{SearchState}
use Rattle.solve_core.specs.Answering.{IsAnswered, IsStoppedBy, AnswersStop}

-- what is shown of the reason is shown of the answer
pub answers_show : (ts : List Term) (limit : ℕ) (s : SearchState) (stop : Stop) (r : Result Answer NoMemory) → AnswersStop stop r → IsStoppedBy ts limit s stop → IfOk r (IsAnswered ts limit s)
answers_show ts limit s (stops.Strained e) (Ok a) is h = subst (IsAnswered ts limit s) (sym is) h
answers_show ts limit s (stops.Strained e) (Err m) a h = tt
answers_show ts limit s stops.Memory (Ok a) is h = absurd is
answers_show ts limit s stops.Memory (Err m) a h = tt
