-- The search can go on, and of fewer equalities of shared terms it does not speak each time that it rested.
use Rattle.std.proofs.Common.{◌≡◌}
use Rattle.term_core.specs.Tables.{declared_in, Extends}
use Rattle.search_loop.specs.Asking.{state}
use Rattle.search_loop.specs.Rounds.{KeepsLimit}
use Rattle.solve_core.specs.GoingOn.{CanGoOn}
use Rattle.solve_core.specs.Unspoken.{unspoken_in}
use Rattle.solve_core.proofs.answering.search_with.Given as goal

abbrev pub ghost-speak_of : goal.ghost-speak_of
ghost-speak_of g a = g.asked

abbrev pub invariant-rests : goal.invariant-rests
invariant-rests g l = record {
  grown : Extends l.fn.table l.table;
  declared : declared_in l.table ≡ declared_in l.fn.table;
  limit : KeepsLimit l.fn.search.budget l.search.budget;
  ready : CanGoOn g.asked l.shared (state l.table l.search) l.theory;
}

abbrev pub decreases-rests : goal.decreases-rests
decreases-rests g l = unspoken_in l.shared (state l.table l.search)
