-- So many marks were gone back over.
use Rattle.std.proofs.Common.{◌≡◌, ℕ, List}
use Rattle.spec_sorts.specs.Terms.{Term}
use Rattle.term_core.specs.Tables.{TableView}
use Rattle.proof_log.specs.Theories.{gone_back}
use Rattle.search_loop.proofs.feeding.back.Given as goal

abbrev pub invariant-marks : goal.invariant-marks
invariant-marks g l = record {
  view : (g.T.Theory.meaning l.theory).view ≡ gone_back l.counter (g.T.Theory.meaning l.fn.theory).view;
  goes : (t : TableView) → (g.T.Theory.meaning l.fn.theory).goes_with t → (g.T.Theory.meaning l.theory).goes_with t;
  came : (t : TableView) (ts : List Term) (n : ℕ) (es : List (ℕ × ℕ)) → (g.T.Theory.meaning l.fn.theory).running.came_by t ts n es → (g.T.Theory.meaning l.theory).running.came_by t ts n es;
}
