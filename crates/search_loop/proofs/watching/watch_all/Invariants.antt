-- The terms up to here are watched, too.
use Rattle.std.proofs.Common.{◌≡◌, ◌+◌, ◌++◌, ℕ, List, take}
use Rattle.spec_sorts.specs.Terms.{Term}
use Rattle.spec_sorts.specs.Subsets.{AreAmong}
use Rattle.term_core.specs.Tables.{clause_at}
use Rattle.search_loop.specs.Paying.{counted_among}
use Rattle.search_loop.proofs.SearchTheories.{watching}
use Rattle.search_loop.proofs.watching.watch_all.Given as goal

abbrev pub invariant-terms : goal.invariant-terms
invariant-terms g l = record {
  view : (g.T.Theory.meaning l.theory).view ≡ watching (g.T.Theory.meaning l.fn.theory).view ((g.T.Theory.meaning l.fn.theory).view.watched ++ take l.id-index l.terms);
  goes : (g.T.Theory.meaning l.theory).goes_with l.table;
  came : (ts : List Term) (n : ℕ) (es : List (ℕ × ℕ)) → AreAmong (clause_at l.table l.terms) ts → (g.T.Theory.meaning l.fn.theory).running.came_by l.table ts n es
      → (g.T.Theory.meaning l.theory).running.came_by l.table ts (n + counted_among l.table (take l.id-index l.terms)) es;
}
