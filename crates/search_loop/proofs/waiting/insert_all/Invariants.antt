-- The atoms up to here wait, besides those that did.
use Rattle.std.proofs.Common.{◌≡◌, ◌++◌, List, length, take}
use Rattle.term_core.specs.declared.ids.TermId.{TermId}
use Rattle.term_core.specs.declared.ids.Lit.{Lit}
use Rattle.search_loop.specs.Waiting.{AreWaiting}
use Rattle.search_loop.proofs.waiting.insert_all.Given as goal

abbrev pub invariant-loop-atom : goal.invariant-loop-atom
invariant-loop-atom l = record {
  size : length l.order ≡ length l.fn.order;
  waiting : (before : List TermId) (held : List Lit) → AreWaiting before held l.fn.order → AreWaiting (before ++ take l.atom-index l.atoms) held l.order;
}
