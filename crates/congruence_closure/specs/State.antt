-- What the parts of a closure keep.
use Rattle.std.specs.Prelude.{◌≡◌, ℕ, ◌<◌, ◌≤◌, ◌⊎◌, ◌↔◌, true, List, [], ◌∷◌, ◌++◌, length, take}
use Rattle.std.specs.Prelude.{slice_index_or, All}
use Rattle.std.specs.Prelude.{Contains}
use Rattle.term_core.specs.declared.ids.TermId.{TermId}
use Rattle.term_core.specs.declared.ids.Lit.{Lit}
use Rattle.class_table.specs.Classes.{class_at, AreSame}
use Rattle.explain_forest.specs.declared.types.Edge.{Edge}
use Rattle.explain_forest.specs.Forest.{ForestState, Linked}
use Rattle.congruence_relation.specs.Relation.{Application, Facts, StatesEqual}
use Rattle.congruence_relation.specs.Edges.{EdgesHaveReasons}
use Rattle.congruence_relation.specs.declared.Truths.{Truths}
use Rattle.congruence_closure.specs.declared.parts.Extent.{Extent}
use Rattle.congruence_closure.specs.Closure.{denial, AreInOrder}
use Rattle.congruence_closure.specs.Listed.{nth, held_at, equality_of}
use Rattle.congruence_closure.specs.Keys.{Keys, key_of, key_at, holder_at, oldest, AreKeys}

-- What is left to do.
pub record Left : Type 0 where
  -- listed terms from this place on were not looked at
  pub looked : ℕ
  -- held literals from this place on were not given
  pub given : ℕ
  -- places of older listed terms to look at again
  pub pending : List ℕ

-- What the parts of a closure are.
pub record PartsState : Type 0 where
  -- what it is about
  pub facts : Facts
  -- the class number of each term
  pub numbers : List ℕ
  -- the edges, newest first
  pub edges : List Edge
  -- the keys of listed terms
  pub keys : Keys
  -- what is left to do
  pub left : Left

-- What contracts of parts see: what they are, and classes and edges at each mark.
pub record PartsView : Type 0 where
  -- as they are
  pub now : PartsState
  -- how many terms the forest has
  pub terms : ℕ
  -- the class numbers at each mark, oldest first
  pub numbers_marks : List (List ℕ)
  -- the edges at each mark
  pub edges_marks : List ForestState

-- the number of a term's class; that of a term that is not there is its own
abbrev pub class_number : List ℕ → TermId → ℕ
class_number numbers t = slice_index_or numbers t.0 t.0

-- a class has this number
abbrev pub IsLive : List ℕ → TermId → Type 0
IsLive numbers n = (n.0 < length numbers) × (class_at numbers n ≡ n.0)

-- Classes and edges say the same of terms.
pub record AreJoint (numbers : List ℕ) (es : List Edge) : Type 0 where
  -- a class has the number of one of its terms
  pub live : (t : TermId) → t.0 < length numbers → IsLive numbers (record { 0 = class_at numbers t })
  -- edges are between terms
  pub ends : All (λ (e : Edge). (e.a.0 < length numbers) × (e.b.0 < length numbers)) es
  -- terms are linked exactly where they are in one class
  pub agree : (t u : TermId) → t.0 < length numbers → u.0 < length numbers → Linked es t.0 u.0 ↔ AreSame numbers t u

-- What facts name are terms.
pub record AreThere (f : Facts) (n : ℕ) : Type 0 where
  -- `true`
  pub true_in : f.truths.true_term.0 < n
  -- `false`
  pub false_in : f.truths.false_term.0 < n
  -- listed terms
  pub terms : All (λ x. x.term.0 < n) f.listed

-- Keys are of listed terms. One whose arguments are all numbers of classes is the present key of its holder.
pub record ArePresent (s : PartsState) : Type 0 where
  -- each key has one holder
  pub keys : AreKeys s.keys
  -- holders are listed, and take part
  pub holders : (k : ℕ) → k < length s.keys.shapes → holder_at s.keys k < length s.facts.listed
  pub parts : (k : ℕ) → k < length s.keys.shapes → (nth s.facts.listed (holder_at s.keys k)).takes_part ≡ true
  -- arguments are below the count of terms
  pub low : (k : ℕ) → k < length s.keys.shapes
      → All (λ (a : TermId). a.0 < length s.numbers) (key_at s.keys k).arguments
  -- it is the present key
  pub present : (k : ℕ) → k < length s.keys.shapes → All (IsLive s.numbers) (key_at s.keys k).arguments
      → key_at s.keys k ≡ key_of s.numbers (nth s.facts.listed (holder_at s.keys k)).shape

-- the listed term of a place is to be looked at
abbrev pub IsPending : Left → ℕ → Type 0
IsPending l i = (l.looked ≤ i) ⊎ Contains l.pending i

-- Its key is there, with a holder in its class.
pub record HasKey (s : PartsState) (i : ℕ) : Type 0 where
  -- the key's place
  pub at : ℕ
  pub there : at < length s.keys.shapes
  -- it is the key
  pub is : key_at s.keys at ≡ key_of s.numbers (nth s.facts.listed i).shape
  -- the holder is in its class
  pub same : AreSame s.numbers (nth s.facts.listed (holder_at s.keys at)).term (nth s.facts.listed i).term

-- if it is an equality that a given literal denies, its sides are in different classes
abbrev pub IsApart : PartsState → ℕ → Type 0
IsApart s i = (j : ℕ) (a b : TermId) → j < s.left.given → held_at s.facts.held j ≡ denial (nth s.facts.listed i).term
    → (nth s.facts.listed i).shape ≡ equality_of a b → AreSame s.numbers a b → ⊥

-- What the parts of a closure keep.
pub record PartsFit (s : PartsState) : Type 0 where
  -- terms and literals are in order
  pub order : AreInOrder s.facts
  -- what they name are terms
  pub there : AreThere s.facts (length s.numbers)
  -- classes and edges say the same
  pub joint : AreJoint s.numbers s.edges
  -- each edge has a reason
  pub reasons : EdgesHaveReasons s.facts s.edges
  -- keys are of listed terms
  pub keys : ArePresent s
  -- what was done is there
  pub looked : s.left.looked ≤ length s.facts.listed
  pub given : s.left.given ≤ length s.facts.held
  -- each listed term that takes part is to be looked at, or its key is there, and its sides are apart
  pub ready : (i : ℕ) → i < length s.facts.listed → (nth s.facts.listed i).takes_part ≡ true
      → IsPending s.left i ⊎ (HasKey s i × IsApart s i)
  -- what given literals state is in one class
  pub stated : (j : ℕ) (a b : TermId) → j < s.left.given → StatesEqual s.facts (held_at s.facts.held j) a b
      → AreSame s.numbers a b

-- Nothing is left to do, and the truth values are not linked.
pub record IsSaturated (s : PartsState) : Type 0 where
  pub looked : s.left.looked ≡ length s.facts.listed
  pub given : s.left.given ≡ length s.facts.held
  pub pending : s.left.pending ≡ []
  pub apart : Linked s.edges s.facts.truths.true_term.0 s.facts.truths.false_term.0 → ⊥

-- one listed term more
abbrev pub with_listed : Facts → Application → Facts
with_listed f x = record { listed = f.listed ++ x ∷ []; truths = f.truths; held = f.held }

-- one held literal more
abbrev pub with_held : Facts → Lit → Facts
with_held f l = record { listed = f.listed; truths = f.truths; held = f.held ++ l ∷ [] }

-- nothing is listed or held
abbrev pub no_facts : Truths → Facts
no_facts t = record { listed = []; truths = t; held = [] }

-- how much there is
abbrev pub extent_of : PartsState → Extent
extent_of s = record {
  listed = length s.facts.listed;
  held = length s.facts.held;
  keys = length s.keys.shapes;
  looked = s.left.looked;
  given = s.left.given;
}

-- what facts were when there was so much
abbrev pub facts_at : Facts → Extent → Facts
facts_at f e = record { listed = take e.listed f.listed; truths = f.truths; held = take e.held f.held }

-- what parts were when there was so much and this was left, with these classes and edges
abbrev pub state_at : PartsState → Extent → List ℕ → List ℕ → List Edge → PartsState
state_at s e pending numbers es = record {
  facts = facts_at s.facts e;
  numbers = numbers;
  edges = es;
  keys = oldest e.keys s.keys;
  left = record { looked = e.looked; given = e.given; pending = pending };
}
