-- A buffer before a sink.
use Rattle.std.specs.Prelude.{◌≡◌, ℕ, zero, suc, List, [], ◌++◌, length, drop, Option, Some, None, Result, Ok, Err}
use Rattle.std.specs.Io.KnownBytes.{append_known}
use Rattle.world_io.specs.Writing.{SinkView, Sent, NotFlushed}
use Rattle.world_io.specs.declared.fault.Failed.{Failed}
use Rattle.world_io.specs.declared.buffered_sink.BufferedSink.{BufferedSink}

-- the sink to which the buffer writes
abbrev pub sink_of : {K : Type 0} → BufferedSink K → K
sink_of b = b.sink

-- the bytes that wait in the buffer itself
abbrev pub pending_in : {K : Type 0} → BufferedSink K → List ℕ
pending_in b = drop b.from b.bytes.items

-- the room that is left where so many bytes of it are taken; none is promised where there are not so many
abbrev pub room_minus : ℕ → ℕ → Option ℕ
room_minus most zero = Some most
room_minus zero (suc n) = None
room_minus (suc most) (suc n) = room_minus most n

-- the same, of a room that is promised or not
abbrev pub room_left : Option ℕ → ℕ → Option ℕ
room_left None n = None
room_left (Some most) n = room_minus most n

-- a sink with a buffer before it in which those bytes wait
abbrev pub buffered : SinkView → List ℕ → SinkView
buffered sink bytes = record {
  known = append_known sink.known bytes;
  faults = sink.faults;
  pending = sink.pending ++ bytes;
  room = room_left sink.room (length bytes);
}

-- what waited in a buffer was written to its sink, all of it; or some still waits, and what is known of both stays the
-- same
abbrev pub PassesOn : List ℕ → Result (Unit {0}) Failed → SinkView → List ℕ → SinkView → Type 0
PassesOn bytes (Ok _) old left new = (left ≡ []) × Sent bytes old new
PassesOn bytes (Err _) old left new = NotFlushed (buffered old bytes) (buffered new left)

-- nothing is appended, and no room is used, unless a fault was counted
abbrev pub PassesNothing : Result (Unit {0}) Failed → SinkView → SinkView → Type 0
PassesNothing (Ok _) old new = Sent [] old new
PassesNothing (Err _) old new = NotFlushed old new
