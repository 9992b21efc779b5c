-- The variables of the literals from here on wait.
use Rattle.std.proofs.Common.{◌≡◌, ◌≤◌, length, take, List}
use Rattle.term_core.specs.declared.ids.TermId.{TermId}
use Rattle.search_loop.specs.Waiting.{AreWaiting, AreOfAtoms}
use Rattle.search_loop.proofs.waiting.put_all_back.Given as goal

abbrev pub invariant-literals : goal.invariant-literals
invariant-literals l = record {
  phases : length l.phases.items ≡ length l.fn.phases.items;
  size : length l.order ≡ length l.fn.order;
  within : l.place ≤ length l.trail.literals;
  waiting : (atoms : List TermId) → AreOfAtoms atoms l.trail.literals → AreWaiting atoms l.trail.literals l.fn.order → AreWaiting atoms (take l.place l.trail.literals) l.order;
}

abbrev pub decreases-literals : goal.decreases-literals
decreases-literals l = l.place
