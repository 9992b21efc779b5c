-- What was taken has a value, and fewer variables wait.
use Rattle.std.proofs.Common.{◌≡◌, length, List}
use Rattle.term_core.specs.declared.ids.TermId.{TermId}
use Rattle.search_loop.specs.Waiting.{AreWaiting, count}
use Rattle.search_loop.proofs.decision.next_decision.Given as goal

abbrev pub invariant-variables : goal.invariant-variables
invariant-variables l = record {
  size : length l.order ≡ length l.fn.order;
  waiting : (atoms : List TermId) → AreWaiting atoms l.trail.literals l.fn.order → AreWaiting atoms l.trail.literals l.order;
}

abbrev pub decreases-variables : goal.decreases-variables
decreases-variables l = count l.order
