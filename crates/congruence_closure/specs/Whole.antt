-- What a closure keeps of its marks.
use Rattle.std.specs.Prelude.{◌≡◌, ℕ, ◌<◌, ◌≤◌, Bool, true, List, [], length, map, get_or}
use Rattle.explain_forest.specs.Forest.{ForestState}
use Rattle.congruence_relation.specs.Relation.{Facts}
use Rattle.congruence_closure.specs.declared.parts.Extent.{Extent}
use Rattle.congruence_closure.specs.declared.closure.ClosureMark.{ClosureMark}
use Rattle.congruence_closure.specs.declared.closure.Closure.TheInside.{Inside}
use Rattle.congruence_closure.specs.Closure.{ClosureState, ClosureView}
use Rattle.congruence_closure.specs.State.{PartsView, PartsFit, IsSaturated, extent_of, facts_at, state_at}
use Rattle.congruence_closure.specs.Changes.{no_forest}

-- what it was about at a mark
abbrev pub marked : Facts → ClosureMark → ClosureState
marked f m = record { facts = facts_at f m.extent; saturated = m.saturated }

-- what contracts see of the fields
abbrev pub closure_of : Inside → ClosureView
closure_of c = record {
  now = record { facts = c.parts.now.facts; saturated = c.saturated };
  edges = c.parts.now.edges;
  marks = map (marked c.parts.now.facts) c.marks.items;
}

-- there was no more at one mark than at another
pub record IsUpTo (one other : Extent) : Type 0 where
  pub listed : one.listed ≤ other.listed
  pub held : one.held ≤ other.held
  pub keys : one.keys ≤ other.keys

-- What parts were at a mark, with the classes and edges there, was kept then.
pub record IsMark (p : PartsView) (m : ClosureMark) (numbers : List ℕ) (forest : ForestState) : Type 0 where
  pub kept : PartsFit (state_at p.now m.extent m.pending.items numbers forest.edges)
  pub saturated : m.saturated ≡ true → IsSaturated (state_at p.now m.extent m.pending.items numbers forest.edges)
  pub terms : length numbers ≤ forest.terms
  pub fits : length numbers ≤ length p.now.numbers
  pub upto : IsUpTo m.extent (extent_of p.now)

-- what a mark that is not there has
abbrev pub no_extent : Extent
no_extent = record { listed = 0; held = 0; keys = 0; looked = 0; given = 0 }

-- how much there was at a mark
abbrev pub extent_at : List ClosureMark → ℕ → Extent
extent_at marks j = get_or (map (λ (m : ClosureMark). m.extent) marks) j no_extent

-- What the fields of a closure keep.
pub record ClosureFits (p : PartsView) (saturated : Bool) (marks : List ClosureMark) : Type 0 where
  -- nothing is left to do where it is saturated
  pub done : saturated ≡ true → IsSaturated p.now
  -- classes and edges have as many marks
  pub numbers_count : length p.numbers_marks ≡ length marks
  pub edges_count : length p.edges_marks ≡ length marks
  -- what was at each mark was kept
  pub kept : (j : ℕ) (m : ClosureMark) → j < length marks → get_or marks j m ≡ m
      → IsMark p m (get_or p.numbers_marks j []) (get_or p.edges_marks j no_forest)
  -- there was no more at an older mark
  pub ordered : (i j : ℕ) → i ≤ j → j < length marks → IsUpTo (extent_at marks i) (extent_at marks j)
  -- nor were there more terms
  pub grown : (i j : ℕ) → i ≤ j → j < length marks → length (get_or p.numbers_marks i [])
      ≤ length (get_or p.numbers_marks j [])
