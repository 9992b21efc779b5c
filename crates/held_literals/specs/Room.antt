-- Literals of watched terms, each held once, the room that they need, and marks that fit them.
use Rattle.std.specs.Prelude.{◌≢◌, ◌≤◌, ◌<◌, ◌-◌, ◌*◌, ℕ, List, length, take, map, get_or, All, Contains}
use Rattle.std.specs.List.{AllPairs}
use Rattle.term_core.specs.declared.ids.TermId.{TermId}
use Rattle.term_core.specs.declared.ids.Lit.{Lit}
use Rattle.proof_log.specs.Theories.{Mark, TheoryView, no_mark}
use Rattle.held_literals.specs.declared.held.HeldCounts.{HeldCounts}

-- the mark of a place
abbrev pub mark_of : HeldCounts → Mark
mark_of p = record { held = p.held; watched = p.watched }

-- the marks of places
abbrev pub marks_of : List HeldCounts → List Mark
marks_of ps = map mark_of ps

-- what there is without the newest mark
abbrev pub without_mark : TheoryView → TheoryView
without_mark v = record { held = v.held; watched = v.watched; marks = take (length v.marks - 1) v.marks }

-- the terms of the literals are watched
abbrev pub AreOverWatched : List Lit → List TermId → Type 0
AreOverWatched held watched = All (λ (l : Lit). Contains watched l.term) held

-- Literals of watched terms, each once.
pub record IsHeldOver (held : List Lit) (watched : List TermId) : Type 0 where
  -- no two places have one literal
  pub once : AllPairs (λ l m. l ≢ m) held
  -- the terms are watched
  pub over : AreOverWatched held watched

-- The literals are in a list whose capacity has room for both literals of each watched term.
pub record HasRoom (held : List Lit) (watched : List TermId) (capacity : ℕ) : Type 0 where
  -- each is held once, of a watched term
  pub literals : IsHeldOver held watched
  -- there is room for all
  pub room : 2 * length watched ≤ capacity

-- Marks of what is held and watched: in order, and what was held was over what was watched.
pub record AreHeldMarks (held : List Lit) (watched : List TermId) (marks : List Mark) : Type 0 where
  -- as many literals are held
  pub held_in : (k : ℕ) → k < length marks → (get_or marks k no_mark).held ≤ length held
  -- as many terms are watched
  pub watched_in : (k : ℕ) → k < length marks → (get_or marks k no_mark).watched ≤ length watched
  -- later marks have no fewer literals
  pub held_order : (i j : ℕ) → i ≤ j → j < length marks → (get_or marks i no_mark).held ≤ (get_or marks j no_mark).held
  -- later marks have no fewer terms
  pub watched_order : (i j : ℕ) → i ≤ j → j < length marks → (get_or marks i no_mark).watched
      ≤ (get_or marks j no_mark).watched
  -- at a mark the literals were over the terms
  pub over : (k : ℕ) → k < length marks
      → AreOverWatched (take (get_or marks k no_mark).held held) (take (get_or marks k no_mark).watched watched)
