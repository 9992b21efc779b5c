use Rattle.std.proofs.Common.{◌-◌, ◌≡◌, ℕ, List, length}
use Rattle.spec_text.specs.Readings.{kept}
use Rattle.sexpr_stream.specs.Streams.{bytes_of, taken_to}
use Rattle.script_run.specs.Answering.{RunStart, IsAnswering}
use Rattle.script_run.proofs.answering.answer_held.Given as goal

abbrev pub invariant-commands : goal.invariant-commands
invariant-commands g l = record {
  bytes : bytes_of l.stream ≡ bytes_of l.fn.stream;
  closed : l.stream.closed ≡ l.fn.stream.closed;
  going : (b : RunStart) (fed : List ℕ) → IsAnswering b fed l.fn.stream l.fn.session l.fn.refused (g.K.Sink.state l.fn.out) → IsAnswering b fed l.stream l.session l.refused (g.K.Sink.state l.out);
}

abbrev pub decreases-commands : goal.decreases-commands
decreases-commands g l = length (kept (bytes_of l.stream)) - taken_to l.stream
