-- What contracts see of a sink, and what a call does to it, by its result.
use Rattle.std.specs.Prelude.{◌≡◌, ℕ, ◌-◌, ◌<◌, ◌≤◌, List, [], length, take, Option, Some, None, Result, Ok, Err}
use Rattle.std.specs.Io.KnownBytes.{Appends, Keeps}
use Rattle.world_io.specs.Outside.{Rose, AppendsPrefix}
use Rattle.world_io.specs.declared.fault.Failed.{Failed}

-- a sink as contracts see it
pub record SinkView : Type 0 where
  -- the bytes that were written to it, where they are known; those that wait in buffers are among them
  pub known : Option (List ℕ)
  -- how many calls failed; it never falls
  pub faults : ℕ
  -- the bytes that wait in buffers, the oldest first
  pub pending : List ℕ
  -- pieces of so many bytes in all, and flushes between them, do not fail; `None` promises nothing
  pub room : Option ℕ

-- room for at least so many bytes
abbrev pub IsRoomFor : Option ℕ → ℕ → Type 0
IsRoomFor None n = ⊥
IsRoomFor (Some most) n = n ≤ most

-- a sink promises that pieces of so many bytes in all do not fail
abbrev pub HasRoom : SinkView → ℕ → Type 0
HasRoom sink n = IsRoomFor sink.room n

-- of the room that there was, so many bytes were used at most
abbrev pub UsesRoom : SinkView → SinkView → ℕ → Type 0
UsesRoom old new size = (n : ℕ) → HasRoom old n → size ≤ n → HasRoom new (n - size)

-- a text was written, all of it
pub record Sent (text : List ℕ) (old new : SinkView) : Type 0 where
  pub appended : Appends old.known new.known text
  pub count : old.faults ≤ new.faults
  pub room : UsesRoom old new (length text)

-- a text was not written, but for a prefix of it: a fault was counted, and there was no room for the text
pub record NotSent (text : List ℕ) (old new : SinkView) : Type 0 where
  pub prefix : AppendsPrefix old.known new.known text
  pub failed : Rose old.faults new.faults
  pub room : HasRoom old (length text) → ⊥

-- what a call that writes a text does to a sink, by its result
abbrev pub Sends : List ℕ → Result (Unit {0}) Failed → SinkView → SinkView → Type 0
Sends text (Ok _) old new = Sent text old new
Sends text (Err _) old new = NotSent text old new

-- the first `n` bytes of a piece were written, at least 1 where the piece is not empty
pub record Took (piece : List ℕ) (n : ℕ) (old new : SinkView) : Type 0 where
  pub within : n ≤ length piece
  pub some : 0 < length piece → 0 < n
  pub sent : Sent (take n piece) old new

-- nothing of a piece was written: a fault was counted, and there was no room for the piece
pub record NotTaken (piece : List ℕ) (old new : SinkView) : Type 0 where
  pub kept : Keeps old.known new.known
  pub failed : Rose old.faults new.faults
  pub room : HasRoom old (length piece) → ⊥

-- what one write of a piece does to a sink, by its result
abbrev pub TakesPiece : List ℕ → Result ℕ Failed → SinkView → SinkView → Type 0
TakesPiece piece (Ok n) old new = Took piece n old new
TakesPiece piece (Err _) old new = NotTaken piece old new

-- nothing waits in a buffer
pub record Flushed (old new : SinkView) : Type 0 where
  pub emptied : new.pending ≡ []
  pub kept : Keeps old.known new.known
  pub count : old.faults ≤ new.faults
  pub room : UsesRoom old new 0

-- some bytes may still wait in a buffer: a fault was counted, and no room was promised
pub record NotFlushed (old new : SinkView) : Type 0 where
  pub kept : Keeps old.known new.known
  pub failed : Rose old.faults new.faults
  pub room : HasRoom old 0 → ⊥

-- what a flush does to a sink, by its result
abbrev pub Flushes : Result (Unit {0}) Failed → SinkView → SinkView → Type 0
Flushes (Ok _) old new = Flushed old new
Flushes (Err _) old new = NotFlushed old new

-- the first `n` bytes of a text were written, and where these are not all of them, the next write failed
pub record WritesPrefix (text : List ℕ) (n : ℕ) (old new : SinkView) : Type 0 where
  pub within : n ≤ length text
  pub appended : Appends old.known new.known (take n text)
  pub count : old.faults ≤ new.faults
  pub whole : n ≡ length text → UsesRoom old new (length text)
  pub failed : n < length text → Rose old.faults new.faults
  pub room : n < length text → HasRoom old (length text) → ⊥
