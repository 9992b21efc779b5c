-- The clauses up to here were looked at.
use Rattle.std.proofs.Common.{◌≤◌, ℕ}
use Rattle.proof_log.specs.Entries.{log_of}
use Rattle.proof_log.specs.Moving.{with_marks, IsMoving}
use Rattle.proof_log.proofs.keeping.move_all.Given as goal

-- In the midst of it.
pub record Moves (P : Type 0) (from k : ℕ) : Type 0 where
  pub moving : P
  pub since : from ≤ k

abbrev pub invariant-clauses : goal.invariant-clauses
invariant-clauses l = Moves (IsMoving l.from (with_marks (log_of l.fn.entries.items) l.fn.marks.items) l.k l.to (with_marks (log_of l.entries.items) l.marks.items)) l.from l.k
