-- Lists by the numbers of terms, which find places.
use Rattle.std.specs.Prelude.{◌≡◌, ℕ, ◌*◌, ◌<◌, ◌≤◌, true, false, List, [], length, map, get_or, set, if◌then◌else◌}
use Rattle.std.specs.Prelude.{All, Contains, Vec}
use Rattle.std.specs.declared.alloc.Global.{Global}
use Rattle.term_core.specs.declared.ids.TermId.{TermId}
use Rattle.term_core.specs.declared.ids.Lit.{Lit}
use Rattle.congruence_relation.specs.Relation.{Application}
use Rattle.congruence_closure.specs.Listed.{nth, held_at, AreListedOnce}

-- what is in lists
abbrev pub lists : List (Vec ℕ Global) → List (List ℕ)
lists vs = map (λ v. v.items) vs

-- there are no fewer entries, and those that were there are as they were
pub record AreGrown (old new : List ℕ) : Type 0 where
  -- there are no fewer
  pub longer : length old ≤ length new
  -- they are as they were
  pub same : (k : ℕ) → k < length old → get_or new k 0 ≡ get_or old k 0

-- each list has all that it had
abbrev pub HaveKept : List (List ℕ) → List (List ℕ) → Type 0
HaveKept old new = (t i : ℕ) → Contains (get_or old t []) i → Contains (get_or new t []) i

-- each list has the places below one that it had
abbrev pub HaveKeptBelow : ℕ → List (List ℕ) → List (List ℕ) → Type 0
HaveKeptBelow place old new = (t i : ℕ) → i < place → Contains (get_or old t []) i → Contains (get_or new t []) i

-- the lists of these terms have a place
abbrev pub HaveNoted : List TermId → ℕ → List (List ℕ) → Type 0
HaveNoted ts place all = All (λ (t : TermId). Contains (get_or all t.0 []) place) ts

-- The places of listed terms are found by their numbers, and by their arguments where they take part.
pub record IsIndexed (listed : List Application) (entries : List ℕ) (all : List (List ℕ)) : Type 0 where
  -- no term is listed twice
  pub once : AreListedOnce listed
  -- each has an entry
  pub low : (i : ℕ) → i < length listed → (nth listed i).term.0 < length entries
  -- which is its place
  pub places : (i : ℕ) → i < length listed → get_or entries (nth listed i).term.0 0 ≡ i
  -- the lists of its arguments have its place
  pub users : (i : ℕ) (t : TermId) → i < length listed → (nth listed i).takes_part ≡ true
      → Contains (nth listed i).shape.arguments t → Contains (get_or all t.0 []) i

-- the entries, of which that of a denied term is a place
abbrev pub noted : List ℕ → Lit → ℕ → List ℕ
noted denials l place = if l.positive then denials else set denials l.term.0 place

-- What contracts see of held literals: these, and how many terms there is room for.
pub record HoldingView : Type 0 where
  -- the literals, oldest first
  pub held : List Lit
  -- how many terms
  pub terms : ℕ

-- The places of denials are found by the numbers of their terms, and there is room for two literals of each term.
pub record AreDenials (held : List Lit) (denials : List ℕ) (capacity : ℕ) : Type 0 where
  -- literals are of these terms
  pub low : (j : ℕ) → j < length held → (held_at held j).term.0 < length denials
  -- each is held once
  pub once : (i j : ℕ) → i < j → j < length held → held_at held i ≡ held_at held j → ⊥
  -- a denial has its place as its term's entry
  pub places : (j : ℕ) → j < length held → (held_at held j).positive ≡ false → get_or denials (held_at held j).term.0 0
      ≡ j
  -- there is room for two literals of each term
  pub room : 2 * length denials ≤ capacity
