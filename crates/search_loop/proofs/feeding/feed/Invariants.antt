-- The literals up to here are held.
use Rattle.std.proofs.Common.{◌≡◌, ◌+◌, ℕ, List, take}
use Rattle.spec_sorts.specs.Terms.{Term}
use Rattle.term_core.specs.Tables.{TableView}
use Rattle.search_loop.specs.Paying.{counted_held}
use Rattle.search_loop.proofs.SearchTheories.{fed}
use Rattle.search_loop.proofs.feeding.feed.Given as goal

abbrev pub invariant-places : goal.invariant-places
invariant-places g l = record {
  view : (g.T.Theory.meaning l.theory).view ≡ fed (g.T.Theory.meaning l.fn.theory).view (take l.place l.trail.literals);
  goes : (t : TableView) → (g.T.Theory.meaning l.fn.theory).goes_with t → (g.T.Theory.meaning l.theory).goes_with t;
  came : (t : TableView) (ts : List Term) (n : ℕ) (es : List (ℕ × ℕ)) → (g.T.Theory.meaning l.fn.theory).goes_with t → (g.T.Theory.meaning l.fn.theory).running.came_by t ts n es → (m : ℕ) × (g.T.Theory.meaning l.theory).running.came_by t ts m es × (m + counted_held t (g.T.Theory.meaning l.fn.theory).view.held ≡ n + counted_held t (take l.place l.trail.literals));
}
