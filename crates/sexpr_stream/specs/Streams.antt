-- What a text that comes in pieces has next: what each text has next that goes on so. Source: SMT-LIB 2.6, section 3.2;
-- what is next before a text ends is own.
use Rattle.std.specs.Prelude.{◌≡◌, ℕ, Bool, true, false, ◌||◌, List, [], ◌++◌, Result, Ok, Err}
use Rattle.spec_text.specs.declared.Place.{Place}
use Rattle.spec_text.specs.Places.{IsPlaceOf}
use Rattle.spec_text.specs.Lexemes.{lexemes_from}
use Rattle.spec_text.specs.Trees.{Tree}
use Rattle.spec_text.specs.Readings.{kept, is_long, is_of_end}
use Rattle.stream_scan.specs.Next.{IsNext, IsFault, IsOpen, end_of}
use Rattle.smt_lexer.specs.declared.Refusal.{Refusal}
use Rattle.smt_lexer.specs.declared.Refused.{Refused}
use Rattle.smt_lexer.specs.declared.Refused.TheVariants as refused
use Rattle.smt_sexpr.specs.declared.sexpr.Sexpr.{Sexpr}
use Rattle.smt_sexpr.specs.Items.{tree_of}
use Rattle.smt_sexpr.specs.Limited.{refusal_meant, IsStopped}
use Rattle.smt_sexpr.specs.Reads.{ReadsSexpr}
use Rattle.sexpr_stream.specs.declared.stream.NextItem.{NextItem}
use Rattle.sexpr_stream.specs.declared.stream.NextItem.TheVariants as next
use Rattle.sexpr_stream.specs.declared.stream.Stream.{Stream}

-- the bytes that were fed, up to the first that is not read
abbrev pub bytes_of : Stream → List ℕ
bytes_of s = s.bytes.items

-- the offset up to which they were taken
abbrev pub taken_to : Stream → ℕ
taken_to s = s.place.offset

-- whether no byte that may come is read: none comes, or more came than are read
abbrev pub is_fixed : Stream → Bool
is_fixed s = s.closed || is_long (bytes_of s)

-- P is true of each text that goes on as these bytes do: of those that are read alone, where they are fixed
abbrev pub Each : Bool → List ℕ → (List ℕ → Type 0) → Type 0
Each true bytes P = P (kept bytes)
Each false bytes P = (rest : List ℕ) → P (bytes ++ rest)

-- this s-expression is next in each text that goes on so, and ends right before this place
pub record HasItem (s : Stream) (x : Sexpr) (after : Place) : Type 0 where
  -- it is read from the bytes up to the place
  pub read : ReadsSexpr (kept (bytes_of s)) s.place x after
  -- its tree is next in each text that goes on so
  pub next : Each (is_fixed s) (bytes_of s) (λ text. IsNext text (taken_to s) (tree_of x))
  -- the place is right after its last byte
  pub ends : after.offset ≡ end_of (tree_of x)

-- nothing is next in each text that goes on so
pub record WantsMore (s : Stream) : Type 0 where
  -- more bytes may come
  pub not_closed : s.closed ≡ false
  -- and may be read
  pub short : is_long (bytes_of s) ≡ false
  -- no outcome, be it an s-expression, a fault or the end, is that of each such text
  pub nothing : IsOpen (bytes_of s) (taken_to s)
  -- nor is a tree next in each
  pub no_tree : (t : Tree) → ((rest : List ℕ) → IsNext (bytes_of s ++ rest) (taken_to s) t) → ⊥

-- only white space and comments are left of the whole text
pub record IsDone (s : Stream) : Type 0 where
  -- no more bytes come
  pub closed : s.closed ≡ true
  -- all that came are read
  pub short : is_long (bytes_of s) ≡ false
  -- none of the others belongs to a lexeme
  pub rest : lexemes_from (kept (bytes_of s)) (taken_to s) ≡ []

-- this fault is next in each text that goes on as these bytes do, however long it is
pub record StopsEach (bytes : List ℕ) (at : ℕ) (r : Refusal) : Type 0 where
  -- it comes first in each
  pub stops : (rest : List ℕ) → IsFault (bytes ++ rest) at (refusal_meant r)
  -- it says nothing of the end of a text
  pub inner : is_of_end r.fault ≡ false
  -- its place is one of the bytes
  pub place : IsPlaceOf bytes r.place

-- this fault is next in each text that goes on so: in the whole text that is read, where the bytes are fixed
abbrev pub HasFault : Bool → List ℕ → ℕ → Refusal → Type 0
HasFault true bytes at r = IsStopped bytes 0 (lexemes_from (kept bytes) at) r
HasFault false bytes at r = StopsEach bytes at r

-- what is next from the place on up to which the bytes were taken
abbrev pub IsNextItem : Stream → Result NextItem Refused → Type 0
IsNextItem s (Ok (next.Item x after)) = HasItem s x after
IsNextItem s (Ok next.More) = WantsMore s
IsNextItem s (Ok next.Done) = IsDone s
IsNextItem s (Err (refused.Fault r)) = HasFault (is_fixed s) (bytes_of s) (taken_to s) r
IsNextItem s (Err refused.Memory) = Unit {0}

-- two streams are the same but for memory: what was fed, up to where it was taken, and whether more may come
pub record IsSame (old new : Stream) : Type 0 where
  -- the bytes
  pub bytes : bytes_of new ≡ bytes_of old
  -- how many were fed
  pub count : new.fed ≡ old.fed
  -- the place up to which they were taken
  pub place : new.place ≡ old.place
  -- whether more may come
  pub closed : new.closed ≡ old.closed
