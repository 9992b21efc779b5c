-- The text that pieces are, and what was taken of it. Own.
use Rattle.std.specs.Prelude.{◌≡◌, ℕ, true, List, [], ◌++◌}
use Rattle.spec_text.specs.Lexemes.{lexemes, lexemes_from}
use Rattle.spec_text.specs.Trees.{Trees}
use Rattle.spec_text.specs.Readings.{kept, prefix, AreTrees}
use Rattle.stream_scan.specs.Next.{IsOpen}
use Rattle.sexpr_stream.specs.declared.stream.Stream.{Stream}
use Rattle.sexpr_stream.specs.Streams.{bytes_of, taken_to}

-- these bytes may come: none, where no more come
abbrev pub MayCome : Stream → List ℕ → Type 0
MayCome s rest = s.closed ≡ true → rest ≡ []

-- these bytes were fed in all, and these trees were taken
pub record HasTaken (s : Stream) (fed : List ℕ) (ts : Trees) : Type 0 where
  -- the stream has the bytes, up to the first that is not read
  pub bytes : bytes_of s ≡ prefix fed
  -- in each text that goes on so the trees come first, and end where the bytes were taken to
  pub trees : (rest : List ℕ) → MayCome s rest
      → AreTrees (lexemes 0 0 (kept (fed ++ rest))) ts (lexemes_from (kept (fed ++ rest)) (taken_to s))

-- The bytes of a text that may go on hold these s-expressions: they come first in each text that goes on so, and no one
-- s-expression, fault or end is next in each.
pub record HoldTrees (bytes : List ℕ) (ts : Trees) : Type 0 where
  -- the offset up to which they go
  pub at : ℕ
  -- they come first
  pub trees : (rest : List ℕ)
      → AreTrees (lexemes 0 0 (kept (bytes ++ rest))) ts (lexemes_from (kept (bytes ++ rest)) at)
  -- what is next depends on bytes that may come
  pub unsettled : IsOpen bytes at
