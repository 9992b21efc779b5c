-- The premises of the numbers from here on are marked.
use Rattle.std.proofs.Common.{◌≡◌, length}
use Rattle.term_core.specs.Tables.{TableView}
use Rattle.proof_log.specs.Logs.{derivation_in}
use Rattle.alethe_writer.proofs.Closing.{IsClosedFrom}
use Rattle.alethe_writer.proofs.Supports.{IsIt, IsPremise}
use Rattle.alethe_writer.proofs.marks.mark_support.Given as goal

abbrev pub invariant-steps : goal.invariant-steps
invariant-steps l = record {
  so_far : (t : TableView) → IsClosedFrom (IsIt l.fn.step.0) (IsPremise (derivation_in t l.log)) l.number l.marks;
  as_many : length l.marks ≡ length l.fn.marks;
}
