-- No more variables than are wanted, of which the same wait.
use Rattle.std.proofs.Common.{◌≤◌, ◌-◌, List, length}
use Rattle.term_core.specs.declared.ids.TermId.{TermId}
use Rattle.term_core.specs.declared.ids.Lit.{Lit}
use Rattle.search_loop.specs.Waiting.{AreWaiting}
use Rattle.search_loop.proofs.decider.Decider.wait_for.Given as goal

abbrev pub invariant-variables : goal.invariant-variables
invariant-variables l = record {
  within : length l.self ≤ l.vars;
  waiting : (before : List TermId) (held : List Lit) → AreWaiting before held l.fn.self → AreWaiting before held l.self;
}

abbrev pub decreases-variables : goal.decreases-variables
decreases-variables l = l.vars - length l.self
