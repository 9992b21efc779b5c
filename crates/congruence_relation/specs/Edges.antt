-- Edges that represent the congruence of held literals.
use Rattle.std.specs.Prelude.{◌≡◌, ◌⊎◌, ℕ, true, false, List, [], ◌∷◌, map, Contains}
use Rattle.term_core.specs.declared.ids.TermId.{TermId}
use Rattle.term_core.specs.declared.ids.Lit.{Lit}
use Rattle.explain_forest.specs.declared.types.Edge.{Edge}
use Rattle.explain_forest.specs.declared.types.Label.{Label}
use Rattle.explain_forest.specs.declared.types.Label.TheVariants.{Held, Arguments}
use Rattle.explain_forest.specs.Forest.{root, Linked}
use Rattle.congruence_relation.specs.declared.Conflict.{Conflict}
use Rattle.congruence_relation.specs.declared.Conflict.TheVariants.{Truths, Sides}
use Rattle.congruence_relation.specs.Relation.{Application, Facts, IsEquality, StatesEqual}

-- the terms that stand for these, each for all that are linked to it
abbrev pub roots : List Edge → List TermId → List ℕ
roots es ts = map (λ t. root es t.0) ts

-- Two listed terms that take part, with one head, whose arguments are linked in their places.
pub record Meet (f : Facts) (es : List Edge) (a b : TermId) : Type 0 where
  -- the terms
  pub one : Application
  pub other : Application
  -- they are listed
  pub one_there : Contains f.listed one
  pub other_there : Contains f.listed other
  -- they take part
  pub one_part : one.takes_part ≡ true
  pub other_part : other.takes_part ≡ true
  -- they are these
  pub one_is : one.term ≡ a
  pub other_is : other.term ≡ b
  -- one head
  pub heads : one.shape.head ≡ other.shape.head
  -- and linked arguments
  pub arguments : roots es one.shape.arguments ≡ roots es other.shape.arguments

-- an edge's label tells why its terms are equal, where older edges are: a held literal states it, in either
-- direction; or they are listed terms that take part, with one head and linked arguments
abbrev pub IsEdgeReason : Facts → List Edge → Edge → Label → Type 0
IsEdgeReason f es e (Held l) = Contains f.held l × (StatesEqual f l e.a e.b ⊎ StatesEqual f l e.b e.a)
IsEdgeReason f es e (Arguments a b) = (a ≡ e.a) × (b ≡ e.b) × Meet f es e.a e.b

-- each edge has a reason, edges newest first
abbrev pub EdgesHaveReasons : Facts → List Edge → Type 0
EdgesHaveReasons f [] = Unit {0}
EdgesHaveReasons f (e ∷ es) = IsEdgeReason f es e e.label × EdgesHaveReasons f es

-- Edges link what held literals state, and listed terms that take part, with one head and linked arguments.
pub record IsClosed (f : Facts) (es : List Edge) : Type 0 where
  -- what is stated
  pub stated : (l : Lit) (a b : TermId) → Contains f.held l → StatesEqual f l a b → Linked es a.0 b.0
  -- what takes part, and has linked arguments
  pub arguments : (x y : Application) → Contains f.listed x → Contains f.listed y → x.shape.head ≡ y.shape.head
      → x.takes_part ≡ true → y.takes_part ≡ true
      → roots es x.shape.arguments ≡ roots es y.shape.arguments → Linked es x.term.0 y.term.0

-- a listed equality takes part, and its sides are linked
abbrev pub HasLinkedSidesIn : Facts → List Edge → TermId → Type 0
HasLinkedSidesIn f es e = (a : TermId) × (b : TermId) × (q : IsEquality f.listed e a b) × (q.at.takes_part ≡ true)
    × Linked es a.0 b.0

-- terms are linked that must not be: `true` and `false`, or the sides of an equality that takes part, whose
-- negation is held
abbrev pub IsConflict : Facts → List Edge → Conflict → Type 0
IsConflict f es Truths = Linked es f.truths.true_term.0 f.truths.false_term.0
IsConflict f es (Sides e) = Contains f.held (record { term = e; positive = false }) × HasLinkedSidesIn f es e
