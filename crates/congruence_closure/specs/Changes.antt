-- What calls do to the parts of a closure.
use Rattle.std.specs.Prelude.{◌≡◌, ℕ, ◌+◌, ◌-◌, ◌<◌, ◌≤◌, ◌⊎◌, true, List, [], ◌∷◌, ◌++◌, Option, Some, None, length}
use Rattle.std.specs.Prelude.{get_or, take, Contains}
use Rattle.term_core.specs.declared.ids.TermId.{TermId}
use Rattle.term_core.specs.declared.ids.Lit.{Lit}
use Rattle.class_table.specs.Classes.{ClassesView, class_at, members_count, with_terms, AreSame}
use Rattle.explain_forest.specs.declared.types.Edge.{Edge}
use Rattle.explain_forest.specs.declared.types.Label.{Label}
use Rattle.explain_forest.specs.declared.types.Label.TheVariants.{Held, Arguments}
use Rattle.explain_forest.specs.Forest.{ForestState, ForestView}
use Rattle.congruence_relation.specs.declared.Truths.{Truths}
use Rattle.congruence_relation.specs.Relation.{Application, Facts, StatesEqual}
use Rattle.congruence_relation.specs.Edges.{Meet}
use Rattle.congruence_closure.specs.declared.parts.Extent.{Extent}
use Rattle.congruence_closure.specs.declared.saturating.Turn.{Turn}
use Rattle.congruence_closure.specs.declared.saturating.Turn.TheVariants as turns
use Rattle.congruence_relation.specs.declared.Conflict.TheVariants.{Sides}
use Rattle.congruence_relation.specs.Edges.{IsConflict}
use Rattle.congruence_closure.specs.Closure.{denial}
use Rattle.congruence_closure.specs.Listed.{nth, equality_of}
use Rattle.congruence_closure.specs.Tables.{HoldingView}
use Rattle.congruence_closure.specs.State.{PartsState, PartsView, HasKey, IsApart, IsSaturated, no_facts, state_at}

-- Nothing is listed and held.
pub record AreNew (truths : Truths) (new : PartsView) : Type 0 where
  pub facts : new.now.facts ≡ no_facts truths
  pub edges : new.now.edges ≡ []
  pub numbers_marks : new.numbers_marks ≡ []
  pub edges_marks : new.edges_marks ≡ []

-- It is about other facts now, there may be more terms, and the rest stays.
pub record Changes (old : PartsView) (after : Facts) (new : PartsView) : Type 0 where
  pub facts : new.now.facts ≡ after
  pub numbers : length old.now.numbers ≤ length new.now.numbers
  pub edges : new.now.edges ≡ old.now.edges
  pub keys : new.now.keys ≡ old.now.keys
  pub left : new.now.left ≡ old.now.left
  pub numbers_marks : new.numbers_marks ≡ old.numbers_marks
  pub edges_marks : new.edges_marks ≡ old.edges_marks

-- Classes and edges are marked.
pub record MarksState (old new : PartsView) : Type 0 where
  pub now : new.now ≡ old.now
  pub terms : new.terms ≡ old.terms
  pub numbers_marks : new.numbers_marks ≡ old.numbers_marks ++ old.now.numbers ∷ []
  pub edges_marks : new.edges_marks ≡ old.edges_marks ++ record { terms = old.terms; edges = old.now.edges } ∷ []

-- no terms and edges
abbrev pub no_forest : ForestState
no_forest = record { terms = 0; edges = [] }

-- the class numbers at the oldest of so many marks
abbrev pub numbers_back : PartsView → ℕ → List ℕ
numbers_back p n = get_or p.numbers_marks (length p.numbers_marks - n) []

-- the edges there
abbrev pub forest_back : PartsView → ℕ → ForestState
forest_back p n = get_or p.edges_marks (length p.edges_marks - n) no_forest

-- what parts were there, when there was so much and this was left
abbrev pub parts_back : PartsView → ℕ → Extent → List ℕ → PartsView
parts_back p n e pending = record {
  now = state_at p.now e pending (numbers_back p n) (forest_back p n).edges;
  terms = (forest_back p n).terms;
  numbers_marks = take (length p.numbers_marks - n) p.numbers_marks;
  edges_marks = take (length p.edges_marks - n) p.edges_marks;
}

-- there are no more terms than in the forest, and than now
abbrev pub TermsFit : PartsView → ℕ → Type 0
TermsFit p n = (length (numbers_back p n) ≤ (forest_back p n).terms)
    × (length (numbers_back p n) ≤ length p.now.numbers)

-- What a call that saturates does: facts and marks stay, and older keys do.
pub record KeepsFacts (old new : PartsView) : Type 0 where
  pub facts : new.now.facts ≡ old.now.facts
  pub terms : new.terms ≡ old.terms
  pub numbers : length new.now.numbers ≡ length old.now.numbers
  pub numbers_marks : new.numbers_marks ≡ old.numbers_marks
  pub edges_marks : new.edges_marks ≡ old.edges_marks
  pub shapes : (k : ℕ) → k ≤ length old.now.keys.shapes → take k new.now.keys.shapes ≡ take k old.now.keys.shapes
  pub holders : (k : ℕ) → k ≤ length old.now.keys.shapes → take k new.now.keys.holders ≡ take k old.now.keys.holders
  pub count : length old.now.keys.shapes ≤ length new.now.keys.shapes

-- the label of an edge: the literal that states it, or else that the two have linked arguments
abbrev pub label : Option Lit → TermId → TermId → Label
label (Some l) a b = Held l
label None a b = Arguments a b

-- why two terms are equal: a held literal states it, in either direction, or they have one head and linked arguments
abbrev pub IsWhy : Facts → List Edge → Option Lit → TermId → TermId → Type 0
IsWhy f es (Some l) a b = Contains f.held l × (StatesEqual f l a b ⊎ StatesEqual f l b a)
IsWhy f es None a b = Meet f es a b

-- the places have all terms that take part, with an argument in a term's class
abbrev pub AreClassUsers : List Application → List ℕ → TermId → List ℕ → Type 0
AreClassUsers listed numbers t places = (i : ℕ) (a : TermId) → i < length listed
    → (nth listed i).takes_part ≡ true → Contains (nth listed i).shape.arguments a
    → a.0 < length numbers → AreSame numbers a t → Contains places i

-- places were put last
abbrev pub ArePut : List ℕ → List ℕ → (List ℕ → Type 0) → Type 0
ArePut old new P = (more : List ℕ) × (new ≡ old ++ more) × P more

-- the class of one term has no more members than that of another
abbrev pub ClassAtMost : List ℕ → TermId → TermId → Type 0
ClassAtMost numbers a b = members_count numbers (class_at numbers a) ≤ members_count numbers (class_at numbers b)

-- there are more edges
abbrev pub IsLonger : PartsView → PartsView → Type 0
IsLonger old new = length old.now.edges < length new.now.edges

-- the listed term of a place is an equality that takes part and is denied, with linked sides
abbrev pub IsAgainst : PartsState → ℕ → Type 0
IsAgainst s i = IsConflict s.facts s.edges (Sides (nth s.facts.listed i).term)

-- what came of looking at a listed term
abbrev pub HasLooked : PartsView → ℕ → PartsView → Turn → Type 0
HasLooked old i new turns.Quiet = (new.now.left ≡ old.now.left) × (new.now.edges ≡ old.now.edges)
    × ((nth new.now.facts.listed i).takes_part ≡ true → HasKey new.now i × IsApart new.now i)
HasLooked old i new turns.Joined = IsLonger old new
HasLooked old i new (turns.Against c) = IsConflict new.now.facts new.now.edges c
HasLooked old i new turns.Done = ⊥

-- What a literal states is in one class, and what it denies in two where that takes part.
pub record IsGiven (s : PartsState) (l : Lit) : Type 0 where
  pub stated : (a b : TermId) → StatesEqual s.facts l a b → AreSame s.numbers a b
  pub apart : (i : ℕ) (a b : TermId) → i < length s.facts.listed → (nth s.facts.listed i).takes_part ≡ true
      → l ≡ denial (nth s.facts.listed i).term
      → (nth s.facts.listed i).shape ≡ equality_of a b → AreSame s.numbers a b → ⊥

-- what came of giving a literal
abbrev pub HasGiven : PartsView → Lit → PartsView → Turn → Type 0
HasGiven old l new turns.Quiet = (new ≡ old) × IsGiven old.now l
HasGiven old l new turns.Joined = IsLonger old new
HasGiven old l new (turns.Against c) = IsConflict new.now.facts new.now.edges c
HasGiven old l new turns.Done = ⊥

-- how much is left to do
abbrev pub remaining : PartsState → ℕ
remaining s = length s.left.pending + ((length s.facts.listed - s.left.looked) + (length s.facts.held - s.left.given))

-- what came of a turn
abbrev pub HasTurned : PartsView → PartsView → Turn → Type 0
HasTurned old new turns.Quiet = (new.now.edges ≡ old.now.edges) × (remaining new.now < remaining old.now)
HasTurned old new turns.Joined = IsLonger old new
HasTurned old new (turns.Against c) = IsConflict new.now.facts new.now.edges c
HasTurned old new turns.Done = IsSaturated new.now

-- the same, but where something was done and no classes were joined
abbrev pub HasGone : PartsView → PartsView → Turn → Type 0
HasGone old new turns.Quiet = ⊥
HasGone old new t = HasTurned old new t

-- terms came to classes, each alone
pub record HasTerms (old new : ClassesView) : Type 0 where
  -- how many there are
  pub count : ℕ
  pub numbers : new.numbers ≡ with_terms count old.numbers
  pub marks : new.marks ≡ old.marks

-- terms came to a forest
pub record AddsTerms (old new : ForestView) : Type 0 where
  pub terms : old.now.terms ≤ new.now.terms
  pub edges : new.now.edges ≡ old.now.edges
  pub marks : new.marks ≡ old.marks

-- room came for literals
pub record AddsRoom (old new : HoldingView) : Type 0 where
  pub held : new.held ≡ old.held
  pub terms : old.terms ≤ new.terms
