use Rattle.std.proofs.Common.{◌≡◌, ◌≤◌, ◌+◌, ◌-◌, ◌^◌, ℕ, true, List, length}
use Rattle.std.specs.Prelude.{if◌then◌else◌}
use Rattle.std.specs.Io.KnownBytes.{Consumes}
use Rattle.spec_text.specs.Readings.{text_limit}
use Rattle.sexpr_stream.specs.Streams.{bytes_of}
use Rattle.script_run.specs.Answering.{IsAnswering}
use Rattle.script_run.specs.Scripts.{run_start, most_taken}
use Rattle.script_run.proofs.Leaving.{IsAll}
use Rattle.script_run.proofs.script.run_pieces.Given as goal

abbrev pub invariant-turns : goal.invariant-turns
invariant-turns g l = record {
  fed : List ℕ;
  going : IsAnswering (run_start l.fn.session.limits l.fn.session.mode (g.K.Sink.state l.fn.out)) fed l.stream l.session l.refused (g.K.Sink.state l.out);
  read : Consumes (g.F.Shelf.left l.fn.shelf) (g.F.Shelf.left l.shelf) fed;
  few : length fed ≤ most_taken;
  closed : l.stream.closed ≡ true → IsAll (g.F.Shelf.left l.fn.shelf) fed;
  size : length l.buf ≡ 2 ^ 16;
  same : (n : List ℕ) → g.F.Shelf.holds l.shelf n ≡ g.F.Shelf.holds l.fn.shelf n;
  count : g.F.Shelf.faults l.fn.shelf ≤ g.F.Shelf.faults l.shelf;
  sound : g.F.Shelf.is_sound l.fn.shelf → g.F.Shelf.is_sound l.shelf;
}

abbrev pub decreases-turns : goal.decreases-turns
decreases-turns g l = (text_limit + 1 - length (bytes_of l.stream)) + (if l.stream.closed then 0 else 1)
