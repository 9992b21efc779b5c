-- The arguments of the numbers from here on are marked.
use Rattle.std.proofs.Common.{◌≡◌, length}
use Rattle.alethe_writer.specs.Marks.{IsNumberMarked, IsArgument}
use Rattle.alethe_writer.proofs.Closing.{IsClosedFrom}
use Rattle.alethe_writer.proofs.marks.mark_arguments.Given as goal

abbrev pub invariant-terms : goal.invariant-terms
invariant-terms l = record {
  so_far : IsClosedFrom (IsNumberMarked l.fn.marks) (IsArgument l.table) l.number l.marks;
  as_many : length l.marks ≡ length l.fn.marks;
}
