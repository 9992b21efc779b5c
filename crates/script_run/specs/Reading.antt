-- What a read gives a text that comes in pieces.
use Rattle.std.specs.Prelude.{◌≡◌, ◌<◌, ◌≤◌, ◌⊎◌, ℕ, true, List, [], ◌++◌, length, Option, Result, Ok, Err}
use Rattle.std.specs.Io.KnownBytes.{Consumes, Keeps, IsAtEnd}
use Rattle.world_io.specs.declared.read.ReadStop.{ReadStop}
use Rattle.world_io.specs.declared.read.ReadStop.TheVariants as stops
use Rattle.spec_text.specs.Readings.{prefix}
use Rattle.sexpr_stream.specs.declared.stream.Stream.{Stream}
use Rattle.sexpr_stream.specs.Streams.{bytes_of, IsSame}

-- these bytes were fed, one at least
pub record IsFed (piece : List ℕ) (old new : Stream) : Type 0 where
  -- there is one
  pub some : 0 < length piece
  -- they come after the others
  pub bytes : bytes_of new ≡ prefix (bytes_of old ++ piece)
  -- nothing was taken
  pub place : new.place ≡ old.place
  -- more may come, where more might before
  pub closed : new.closed ≡ old.closed

-- no more bytes come
pub record IsClosed (old new : Stream) : Type 0 where
  -- they are the same
  pub bytes : bytes_of new ≡ bytes_of old
  -- nothing was taken
  pub place : new.place ≡ old.place
  -- it is closed
  pub closed : new.closed ≡ true

-- a read's bytes are fed; where it gives none, nothing was left, and no more come
abbrev pub Feeds : List ℕ → Option (List ℕ) → Stream → Stream → Type 0
Feeds piece before old new = IsFed piece old new ⊎ ((piece ≡ []) × IsAtEnd before × IsClosed old new)

-- what one read of so many bytes at most does to what is left of a text, and to the stream of what came of it; where it
-- fails, nothing was read, and where memory runs out, nothing was fed
abbrev pub ReadsPiece : ℕ → Result (Unit {0}) ReadStop → (before left : Option (List ℕ)) → Stream → Stream → Type 0
ReadsPiece most (Ok _) before left old new =
    (piece : List ℕ) × Consumes before left piece × (length piece ≤ most) × Feeds piece before old new
ReadsPiece most (Err stops.Failed) before left old new = Keeps before left × IsSame old new
ReadsPiece most (Err stops.Memory) before left old new =
    (piece : List ℕ) × Consumes before left piece × (length piece ≤ most) × IsSame old new
