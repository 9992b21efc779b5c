-- What a shelf and a sink in memory hold.
use Rattle.std.specs.Prelude.{◌≡◌, ℕ, zero, suc, ◌+◌, ◌-◌, ◌^◌, ◌<◌, ◌⊎◌, List, [], ◌∷◌, ◌++◌, length, take, drop, min}
use Rattle.std.specs.Prelude.{Contains, Option, Some, None, Result, Ok, Err, if◌then◌else◌, string_bytes, String}
use Rattle.std.specs.Str.{bytes_eq}
use Rattle.world_io.specs.declared.bytes.Bytes.{Bytes}
use Rattle.world_io.specs.Outside.{Rose}
use Rattle.world_io.specs.Writing.{SinkView}
use Rattle.world_io.specs.declared.fault.Failed.{Failed}
use Rattle.std.specs.Global.{Global}

-- the bytes of a name, and the text under it
abbrev pub Text : Type 0
Text = List ℕ × List ℕ

-- a name and the text under it, as a shelf keeps them
abbrev pub NamedText : Type 0
NamedText = String Global × Bytes

-- an entry's bytes
abbrev pub bytes_of_entry : NamedText → Text
bytes_of_entry entry = (string_bytes entry.0, entry.1)

-- the first text of that name
abbrev pub text_named : List Text → List ℕ → Option (List ℕ)
text_named [] name = None
text_named (t ∷ ts) name = if bytes_eq t.0 name then Some t.1 else text_named ts name

-- the text at an index, empty where there is none
abbrev pub text_at : List Text → ℕ → List ℕ
text_at [] k = []
text_at (t ∷ ts) zero = t.1
text_at (t ∷ ts) (suc k) = text_at ts k

-- a shelf: its texts, what is left of the one begun, the most bytes of a read, the numbers of the calls that are to
-- fail,
-- how many calls came, and how many of them failed
pub record ShelfState : Type 0 where
  -- the texts, each with its name
  pub texts : List Text
  -- what is left of the text that was begun
  pub left : List ℕ
  -- the most bytes that one read gives
  pub most : ℕ
  -- the numbers of the calls that fail
  pub failing : List ℕ
  -- how many calls of `begin` and `read` came
  pub calls : ℕ
  -- how many of them failed
  pub faults : ℕ

-- a sink: what was written, for how many bytes there is room, the most bytes of a write, the numbers of the writes that
-- are
-- to fail, how many writes came, and how many of them failed
pub record SinkState : Type 0 where
  -- what was written
  pub written : List ℕ
  -- how many bytes more it takes
  pub room : ℕ
  -- the most bytes that one write takes
  pub most : ℕ
  -- the numbers of the writes that fail
  pub failing : List ℕ
  -- how many writes came
  pub calls : ℕ
  -- how many of them failed
  pub faults : ℕ

-- the room that a sink promises: all that is left, where no write is to fail and each takes a byte
abbrev pub promised : List ℕ → ℕ → ℕ → Option ℕ
promised [] zero room = None
promised [] (suc most) room = Some room
promised (k ∷ ks) most room = None

-- a sink in memory as contracts over all sinks see it: nothing waits
abbrev pub seen_sink : SinkState → SinkView
seen_sink s = record {
  known = Some s.written;
  faults = s.faults;
  pending = [];
  room = promised s.failing s.most s.room;
}

-- one more; at the greatest number of 64 bits it stays
abbrev pub next_number : ℕ → ℕ
next_number n = min (n + 1) (2 ^ 64 - 1)

-- a shelf after a call that failed
abbrev pub shelf_failed : ShelfState → ShelfState
shelf_failed s = record s { calls = next_number s.calls; faults = next_number s.faults }

-- a sink after a write that failed
abbrev pub sink_failed : SinkState → SinkState
sink_failed s = record s { calls = next_number s.calls; faults = next_number s.faults }

-- `begin` of a name, its answer, and the shelf after it
abbrev pub BeginsText : ShelfState → List ℕ → Result (Unit {0}) Failed → ShelfState → Type 0
BeginsText old name (Ok u) new = (Contains old.failing old.calls → ⊥) × (text_named old.texts name ≡ Some new.left)
    × (new ≡ record old { left = new.left; calls = next_number old.calls })
BeginsText old name (Err e) new = (Contains old.failing old.calls ⊎ (text_named old.texts name ≡ None))
    × Rose old.faults new.faults × (new ≡ shelf_failed old)

-- `read` into a buffer of so many bytes, what the buffer then holds, the answer, and the shelf after it
abbrev pub ReadsShelf : ShelfState → ℕ → List ℕ → Result ℕ Failed → ShelfState → Type 0
ReadsShelf old size got (Ok n) new = (Contains old.failing old.calls → ⊥) × (0 < old.most)
    × (n ≡ min (min (length old.left) size) old.most) × (take n got ≡ take n old.left)
    × (new ≡ record old { left = drop n old.left; calls = next_number old.calls })
ReadsShelf old size got (Err e) new = (Contains old.failing old.calls ⊎ (old.most ≡ 0)) × Rose old.faults new.faults
    × (new ≡ shelf_failed old)

-- `write` of a piece, its answer, and the sink after it
abbrev pub Writes : SinkState → List ℕ → Result ℕ Failed → SinkState → Type 0
Writes old piece (Ok n) new = (Contains old.failing old.calls → ⊥) × (n ≡ min (min (length piece) old.most) old.room)
    × (n ≡ 0 → piece ≡ []) × (new ≡ record old {
      written = old.written ++ take n piece;
      room = old.room - n;
      calls = next_number old.calls;
    })
Writes old piece (Err e) new = (Contains old.failing old.calls ⊎ ((0 < length piece) × (min old.most old.room ≡ 0)))
    × Rose old.faults new.faults × (new ≡ sink_failed old)
