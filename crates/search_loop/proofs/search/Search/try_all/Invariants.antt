-- The literals up to here were tried.
use Rattle.std.specs.Prelude.{Ok, None}
use Rattle.search_loop.specs.Loops.{loop_state, TriesAll}
use Rattle.search_loop.proofs.search.Search.try_all.Given as goal

abbrev pub invariant-literals : goal.invariant-literals
invariant-literals g l = TriesAll l.lit-index 0 (loop_state l.fn.table l.fn.self (g.T.Theory.meaning l.fn.theory)) (loop_state l.table l.self (g.T.Theory.meaning l.theory)) (Ok None)
