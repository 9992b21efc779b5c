-- Prefixes of what was seen at which the clauses are quiet.
use Rattle.std.specs.Prelude.{◌≡◌, ◌+◌, ◌-◌, ◌<◌, ◌≤◌, ℕ, Bool, true, false, Option, List, [], length}
use Rattle.std.specs.Prelude.{take, get_or, Contains}
use Rattle.term_core.specs.declared.ids.Lit.{Lit}
use Rattle.sat_trail.specs.Trails.{TrailView, HasSame}
use Rattle.clause_store.specs.declared.pair.Pair.{Pair}
use Rattle.clause_store.specs.declared.parts.StoreParts.{StoreParts}
use Rattle.clause_store.specs.Stores.{StoreView, no_pair, HasSeen}
use Rattle.clause_store.specs.Entries.{clauses_of, steps_of, bare}
use Rattle.clause_store.specs.Propagating.{Advances}
use Rattle.clause_store.specs.Watching.{IsWatched, AreLiteralsAmong, IsFalseOf, AreQuietPairs, AreKnownIn}

-- what the parts mean
abbrev pub store_of : StoreParts → StoreView
store_of p = record {
  clauses = clauses_of p.watched.entries.items;
  steps = steps_of p.watched.entries.items;
  seen = p.seen.items;
  pairs = p.watched.pairs.items;
}

-- the lengths rise
abbrev pub LengthsRise : List ℕ → Type 0
LengthsRise quiet_at = (i j : ℕ) → i < j → j < length quiet_at → get_or quiet_at i 0 ≤ get_or quiet_at j 0

-- The first pairs are quiet by the prefixes of these lengths, which are no longer than one.
pub record QuietLengths (quiet_at : List ℕ) (count : ℕ) (pairs : List Pair) (most : ℕ) (held : List Lit) : Type 0 where
  -- they rise
  pub rising : LengthsRise quiet_at
  -- none is longer
  pub within : (r : ℕ) → Contains quiet_at r → r ≤ most
  -- by each the pairs are quiet
  pub were_quiet : (r : ℕ) → Contains quiet_at r → AreQuietPairs count pairs (take r held) (take r held)

-- The first clauses were looked at: each has a literal, and those of one literal are in a list.
pub record AreAttached (clauses : List (List Lit)) (pairs : List Pair) (count : ℕ) (short : List ℕ) : Type 0 where
  -- there are as many clauses
  pub within : count ≤ length clauses
  -- each has a literal
  pub there : (n : ℕ) → n < count → Contains (get_or clauses n []) (get_or pairs n no_pair).first
  -- those of one literal are in the list
  pub listed : (n : ℕ) → n < count → (get_or pairs n no_pair).first ≡ (get_or pairs n no_pair).second → Contains short n
  -- and no others
  pub only : (n : ℕ) → Contains short n → (n < count)
      × ((get_or pairs n no_pair).first ≡ (get_or pairs n no_pair).second)

-- the last length, or 0 where there is none
abbrev pub last_of : List ℕ → ℕ
last_of quiet_at = get_or quiet_at (length quiet_at - 1) 0

-- the first of some lengths
abbrev pub IsPrefixOf : List ℕ → List ℕ → Type 0
IsPrefixOf new old = (length new ≤ length old) × (new ≡ take (length new) old)

-- The parts fit together.
pub record StoreFits (p : StoreParts) : Type 0 where
  -- clauses, pairs and lists
  pub watched : IsWatched p.watched
  -- what was looked at
  pub attached : AreAttached (clauses_of p.watched.entries.items) p.watched.pairs.items p.attached p.short.items
  -- the prefixes
  pub quiet_at : QuietLengths p.quiet_at.items p.attached p.watched.pairs.items (length p.seen.items) p.seen.items

-- The parts fit together, and there is room for the number of each clause.
pub record StoreHasRoom (p : StoreParts) (numbers : List (Option ℕ)) : Type 0 where
  -- the parts
  pub fits : StoreFits p
  -- the room
  pub room : length numbers ≡ length p.watched.entries.items

-- The parts fit together in the midst of propagation, where the prefixes are those of the trail.
pub record IsAtWork (p : StoreParts) (t : TrailView) : Type 0 where
  -- clauses, pairs and lists
  pub watched : IsWatched p.watched
  -- what was looked at
  pub attached : AreAttached (clauses_of p.watched.entries.items) p.watched.pairs.items p.attached p.short.items
  -- the prefixes
  pub quiet_at : QuietLengths p.quiet_at.items p.attached p.watched.pairs.items t.propagated t.literals
  -- the terms are variables
  pub known : AreKnownIn p.watched t.vars
  -- what is marked was seen
  pub seen : HasSeen (store_of p) t

-- What a part of propagation does: it implies literals, and keeps clauses, what was seen and what was looked at.
pub record WorksOn (old new : StoreParts) (before after : TrailView) : Type 0 where
  -- literals are implied, and none is marked
  pub advances : Advances (bare old.watched.entries.items) before after
  -- the clauses are as they were
  pub entries : new.watched.entries.items ≡ old.watched.entries.items
  -- so is what was seen
  pub seen : new.seen.items ≡ old.seen.items
  -- where the clauses that were looked at were quiet by what holds, they are quiet
  pub prefixes : (F : List Lit) → AreLiteralsAmong F before.literals
      → AreQuietPairs old.attached old.watched.pairs.items F before.literals
      → AreQuietPairs new.attached new.watched.pairs.items F after.literals

-- what a look at the next clause comes to: it is false, or it was looked at
abbrev pub AttachesOne : StoreParts → StoreParts → List Lit → Bool → Type 0
AttachesOne old new held true = (new.attached ≡ old.attached)
    × IsFalseOf (clauses_of new.watched.entries.items) held new.attached
AttachesOne old new held false = new.attached ≡ old.attached + 1

-- The trail is as it was, but for what is marked.
pub record IsSameBut (before after : TrailView) : Type 0 where
  -- literals, levels and reasons
  pub same : HasSame before after
  -- the variables
  pub vars : after.vars ≡ before.vars
