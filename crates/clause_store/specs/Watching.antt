-- Two literals of each clause are watched.
use Rattle.std.specs.Prelude.{◌≡◌, ◌≢◌, ◌<◌, ◌≤◌, ◌⊎◌, ⊤, ℕ, List, [], ◌∷◌, ◌++◌, length, take, set, get_or}
use Rattle.std.specs.Prelude.{slice_index_or, Contains, All}
use Rattle.std.specs.List.{swap_remove}
use Rattle.term_core.specs.declared.ids.Lit.{Lit}
use Rattle.clause_literals.specs.Literals.{lit_complement}
use Rattle.clause_literals.specs.Statuses.{IsFalsified}
use Rattle.sat_trail.specs.Trails.{TrailView}
use Rattle.watch_index.specs.Indexes.{code, IsAppended}
use Rattle.clause_store.specs.declared.pair.Pair.{Pair}
use Rattle.clause_store.specs.Stores.{StoreView, no_pair, hits_at, tally}
use Rattle.clause_store.specs.Entries.{clauses_of}
use Rattle.clause_store.specs.Propagating.{Advances}
use Rattle.clause_store.specs.declared.entry.StoredClause.{StoredClause}
use Rattle.clause_store.specs.declared.watched.Watched.{Watched}
use Rattle.clause_store.specs.declared.watched.WatchOutcome.{WatchOutcome}
use Rattle.clause_store.specs.declared.watched.WatchOutcome.TheVariants as steps
use Rattle.clause_store.specs.declared.fresh.Fresh.{Fresh}
use Rattle.clause_store.specs.declared.fresh.Fresh.TheVariants as fresh

-- Each clause is in the lists of its two literals, once in each, and in no others; so lists have no other numbers.
pub record IsIndexed (pairs : List Pair) (index : List (List ℕ)) : Type 0 where
  -- how often a number is in a list
  pub counted : (k n : ℕ) → tally n (get_or index k []) ≡ hits_at pairs n k

-- A pair is of two different literals of the clause, or twice the only one that it has.
pub record IsPairOf (clause : List Lit) (p : Pair) : Type 0 where
  -- the one is a literal of the clause
  pub first_in : p.first ≢ p.second → Contains clause p.first
  -- so is the other
  pub second_in : p.first ≢ p.second → Contains clause p.second
  -- where they are one, the clause has no other
  pub alone : p.first ≡ p.second → (m : Lit) → Contains clause m → m ≡ p.first

-- Each clause has its pair.
pub record ArePairs (clauses : List (List Lit)) (pairs : List Pair) : Type 0 where
  -- there are as many
  pub paired : length pairs ≡ length clauses
  -- each is the clause's
  pub each : (n : ℕ) → n < length clauses → IsPairOf (get_or clauses n []) (get_or pairs n no_pair)

-- each list is as it was
abbrev pub HaveSameLists : List (List ℕ) → List (List ℕ) → Type 0
HaveSameLists old new = (k : ℕ) → get_or new k [] ≡ get_or old k []

-- A number came into the lists of two literals.
pub record IsEntered (old : List (List ℕ)) (p : Pair) (n : ℕ) (new : List (List ℕ)) : Type 0 where
  -- the lists between
  pub middle : List (List ℕ)
  -- into the one first
  pub first : IsAppended old (code p.first) n middle
  -- then into the other
  pub second : IsAppended middle (code p.second) n new

-- so it is where they are two, else each list is as it was
pub record IsEnteredIfTwo (old : List (List ℕ)) (p : Pair) (n : ℕ) (new : List (List ℕ)) : Type 0 where
  -- where they are two
  pub two : p.first ≢ p.second → IsEntered old p n new
  -- where they are one
  pub one : p.first ≡ p.second → HaveSameLists old new

-- A clause more is last, with its pair.
pub record IsOneMore (old : Watched) (entry : StoredClause) (new : Watched) : Type 0 where
  -- the pair
  pub pair : Pair
  -- the clause is the last
  pub entries : new.entries.items ≡ old.entries.items ++ entry ∷ []
  -- so is the pair
  pub pairs : new.pairs.items ≡ old.pairs.items ++ pair ∷ []

-- Clauses and pairs are as they were.
pub record IsAsBefore (old new : Watched) : Type 0 where
  -- the clauses
  pub entries : new.entries.items ≡ old.entries.items
  -- the pairs
  pub pairs : new.pairs.items ≡ old.pairs.items

-- Clauses, pairs and lists fit together.
pub record IsWatched (w : Watched) : Type 0 where
  -- the pairs are the clauses'
  pub pairs_by : ArePairs (clauses_of w.entries.items) w.pairs.items
  -- the lists are by the pairs
  pub index_by : IsIndexed w.pairs.items w.index

-- Clauses, pairs and lists.
pub record WatchedView : Type 0 where
  -- the clauses
  pub clauses : List (List Lit)
  -- the pairs
  pub pairs : List Pair
  -- the lists
  pub index : List (List ℕ)

-- the same with the list of a literal that was taken from the index
abbrev pub with_list : Watched → Lit → List ℕ → WatchedView
with_list w l list = record {
  clauses = clauses_of w.entries.items;
  pairs = w.pairs.items;
  index = set w.index (code l) list;
}

-- Clauses, pairs and lists fit together, with the list of a literal that was taken from the index.
pub record IsWatchedWith (w : Watched) (l : Lit) (list : List ℕ) : Type 0 where
  -- the literal has a list
  pub there : code l < length w.index
  -- the pairs are the clauses'
  pub pairs_by : ArePairs (clauses_of w.entries.items) w.pairs.items
  -- the lists are by the pairs
  pub index_by : IsIndexed w.pairs.items (set w.index (code l) list)

-- each literal's term is one of so many variables
abbrev pub AreKnownIn : Watched → ℕ → Type 0
AreKnownIn w vars = All (All (λ (l : Lit). l.term.0 < vars)) (clauses_of w.entries.items)

-- one of the two is the literal
abbrev pub Has : Pair → Lit → Type 0
Has p l = (p.first ≡ l) ⊎ (p.second ≡ l)

-- a literal that is not false
pub record IsOpenIn (held clause : List Lit) (l : Lit) : Type 0 where
  -- the clause has it
  pub there : Contains clause l
  -- it is not false
  pub not_false : Contains held (lit_complement l) → ⊥

-- a literal that is not false, and not the other
pub record IsOpenBut (held clause : List Lit) (other l : Lit) : Type 0 where
  -- it is not false
  pub is_open : IsOpenIn held clause l
  -- it is not the other
  pub differs : l ≢ other

-- all but the other are false
abbrev pub AreFalseBut : List Lit → List Lit → Lit → Type 0
AreFalseBut held clause other = (m : Lit) → Contains clause m → m ≢ other → Contains held (lit_complement m)

-- those between two places but the other are false
abbrev pub AreFalseBetween : List Lit → List Lit → ℕ → ℕ → Lit → Type 0
AreFalseBetween held clause from to other = (k : ℕ) (m : Lit) → from ≤ k → k < to → slice_index_or clause k m ≡ m
    → m ≢ other
    → Contains held (lit_complement m)

-- at a place is a literal that is not false, and not the other
abbrev pub IsOpenAt : List Lit → List Lit → Lit → ℕ → Type 0
IsOpenAt held clause other k = (k < length clause)
    × ((d : Lit) → IsOpenBut held clause other (slice_index_or clause k d))

-- a literal of the clause, and not the other
pub record IsAnother (clause : List Lit) (other l : Lit) : Type 0 where
  -- the clause has it
  pub there : Contains clause l
  -- it is not the other
  pub differs : l ≢ other

-- Where one of the two is false in the prefix, the other holds; where they are one, it holds.
pub record IsQuietPair (front held : List Lit) (p : Pair) : Type 0 where
  -- where the one is false
  pub by_first : Contains front (lit_complement p.first) → Contains held p.second
  -- where the other is
  pub by_second : Contains front (lit_complement p.second) → Contains held p.first
  -- where they are one
  pub alone : p.first ≡ p.second → Contains held p.first

-- so it is with the first pairs
abbrev pub AreQuietPairs : ℕ → List Pair → List Lit → List Lit → Type 0
AreQuietPairs count pairs front held = (n : ℕ) → n < count → IsQuietPair front held (get_or pairs n no_pair)

-- where one of the two is the literal, the other holds
pub record Passes (held : List Lit) (f : Lit) (p : Pair) : Type 0 where
  -- the one is
  pub as_first : p.first ≡ f → Contains held p.second
  -- the other is
  pub as_second : p.second ≡ f → Contains held p.first

-- each of the first entries has passed
abbrev pub HavePassed : List Pair → List ℕ → ℕ → List Lit → Lit → Type 0
HavePassed pairs list at held f = (j : ℕ) → j < at → j < length list
    → Passes held f (get_or pairs (get_or list j 0) no_pair)

-- each pair of two has passed
abbrev pub HaveAllPassed : List Pair → List Lit → Lit → Type 0
HaveAllPassed pairs held f = (n : ℕ) → n < length pairs → (get_or pairs n no_pair).first
    ≢ (get_or pairs n no_pair).second
    → Passes held f (get_or pairs n no_pair)

-- one list's literals are among the other's
abbrev pub AreLiteralsAmong : List Lit → List Lit → Type 0
AreLiteralsAmong xs ys = (l : Lit) → Contains xs l → Contains ys l

-- The clause of a number is false.
pub record IsFalseOf (clauses : List (List Lit)) (held : List Lit) (n : ℕ) : Type 0 where
  -- it is there
  pub there : n < length clauses
  -- its literals are false
  pub fails : IsFalsified held (get_or clauses n [])

-- Pairs of one literal are as they were, and pairs of two are of two.
pub record HaveSameShapes (old new : List Pair) : Type 0 where
  -- those of one
  pub one : (n : ℕ) → (get_or old n no_pair).first ≡ (get_or old n no_pair).second → get_or new n no_pair
      ≡ get_or old n no_pair
  -- those of two
  pub two : (n : ℕ) → (get_or old n no_pair).first ≢ (get_or old n no_pair).second
      → (get_or new n no_pair).first ≢ (get_or new n no_pair).second

-- What a part of propagation does to the trail and to the first pairs: it adds what is implied, and keeps quiet pairs.
pub record PropagatesPart (s : StoreView) (count : ℕ) (old new : List Pair) (before after : TrailView) : Type 0 where
  -- literals are implied, and none is marked
  pub advances : Advances s before after
  -- there are as many pairs
  pub paired : length new ≡ length old
  -- of one literal or of two
  pub shapes : HaveSameShapes old new
  -- where the pairs were quiet, at whatever prefix of the literals, they are quiet
  pub prefixes : (F G : List Lit) → AreLiteralsAmong F before.literals → AreLiteralsAmong G before.literals
      → AreQuietPairs count old F G → AreQuietPairs count new F G

-- A clause by its number, and the place at which it is in the list of a literal that came to be false.
pub record Visit : Type 0 where
  -- its number
  pub number : ℕ
  -- the place
  pub place : ℕ
  -- the literal
  pub literal : Lit

-- A clause got another watched literal in the place of one.
pub record IsExchanged (v : Visit) (old new : List Pair) (index new_index : List (List ℕ)) : Type 0 where
  -- its pair
  pub pair : Pair
  -- it is one of the clauses
  pub below : v.number < length old
  -- the one is not that literal
  pub first_not : pair.first ≢ v.literal
  -- nor is the other
  pub second_not : pair.second ≢ v.literal
  -- this pair alone changed
  pub pairs : new ≡ set old v.number pair
  -- the list of that literal lost the entry
  pub list : get_or new_index (code v.literal) [] ≡ swap_remove (get_or index (code v.literal) []) v.place 0

-- what a look at a clause comes to
abbrev pub VisitsClause : Visit → WatchedView → WatchedView → List Lit → WatchOutcome → Type 0
VisitsClause v old new held steps.Stays = (new.pairs ≡ old.pairs) × (new.index ≡ old.index)
    × Passes held v.literal (get_or old.pairs v.number no_pair)
VisitsClause v old new held steps.Moved = IsExchanged v old.pairs new.pairs old.index new.index
VisitsClause v old new held steps.Clash = IsFalseOf old.clauses held v.number

-- One clause alone may have got another pair.
pub record IsRepaired (n : ℕ) (old new : List Pair) : Type 0 where
  -- there are as many
  pub paired : length new ≡ length old
  -- the others are as they were
  pub others : (m : ℕ) → m ≢ n → get_or new m no_pair ≡ get_or old m no_pair
  -- it is of one literal or of two, as it was
  pub shapes : HaveSameShapes old new

-- A clause, looked at for the first time, is quiet: it has a literal, and is safe where its false one is none of the
-- prefix.
pub record IsFresh (clause held : List Lit) (p : Pair) (Safe : ℕ → Type 0) : Type 0 where
  -- it has a literal
  pub there : Contains clause p.first
  -- it is quiet by what holds now
  pub now : (F : List Lit) → AreLiteralsAmong F held → IsQuietPair F held p
  -- and by each prefix that is safe
  pub prefixes : (r : ℕ) → r ≤ length held → Safe r → IsQuietPair (take r held) (take r held) p

-- no prefix
abbrev pub NoPrefix : ℕ → Type 0
NoPrefix r = ⊥

-- each prefix
abbrev pub AnyPrefix : ℕ → Type 0
AnyPrefix r = ⊤

-- the first literals of a trail are of levels below one
abbrev pub Below : TrailView → ℕ → ℕ → Type 0
Below t level r = (i : ℕ) → i < r → get_or t.levels i 0 < level

-- what the first look at a clause comes to
abbrev pub Freshly : List Lit → Pair → TrailView → Fresh → Type 0
Freshly clause p t fresh.Open = (p.first ≢ p.second) × IsFresh clause t.literals p AnyPrefix
Freshly clause p t (fresh.Forced level) = (p.first ≢ p.second) × IsFresh clause t.literals p (Below t level)
Freshly clause p t fresh.Single = (p.first ≡ p.second) × IsFresh clause t.literals p NoPrefix
Freshly clause p t fresh.Clash = IsFalsified t.literals clause
