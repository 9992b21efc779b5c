-- What the arrays of a forest keep of its edges.
use Rattle.std.specs.Prelude.{◌≡◌, ◌≢◌, ℕ, suc, ◌+◌, ◌-◌, ◌<◌, ◌≤◌, ◌==◌, nat_lt, ◌&&◌, ◌⊎◌, Bool, true, false, List}
use Rattle.std.specs.Prelude.{[], ◌∷◌, length, reverse, take, replicate, slice_index, slice_set, All, if◌then◌else◌}
use Rattle.std.specs.List.{range_with_len}
use Rattle.explain_forest.specs.declared.types.Edge.{Edge}
use Rattle.explain_forest.specs.declared.types.EdgeMark.{EdgeMark}
use Rattle.explain_forest.specs.Forest.{ForestState, root, Linked, numbered}

-- each edge is between terms below a number that older edges do not link
abbrev pub EdgesAreApart : ℕ → List Edge → Type 0
EdgesAreApart n [] = Unit {0}
EdgesAreApart n (e ∷ es) = (e.a.0 < n) × (e.b.0 < n) × (Linked es e.a.0 e.b.0 → ⊥) × EdgesAreApart n es

-- the term above each term, itself where none is
abbrev pub parents_by : ℕ → List Edge → List ℕ
parents_by n [] = range_with_len 0 n
parents_by n (e ∷ es) = slice_set (parents_by n es) (root es e.a.0) (root es e.b.0)

-- the number of the edge that put each term under its parent, from 1, or 0 where there is no parent
abbrev pub stamps_by : ℕ → List Edge → List ℕ
stamps_by n [] = replicate n 0
stamps_by n (e ∷ es) = slice_set (stamps_by n es) (root es e.a.0) (suc (length es))

-- how many of so many edges are not older than a term's stamp, or 0 where it has none
abbrev pub height : List ℕ → ℕ → ℕ → ℕ
height stamps k t = if slice_index stamps t == 0 then 0 else k + 1 - slice_index stamps t

-- the root by so many of the oldest edges alone
abbrev pub root_at : ℕ → List Edge → ℕ → ℕ
root_at k [] t = t
root_at k (e ∷ es) t =
    if nat_lt (length es) k && (root_at k es t == root_at k es e.a.0) then root_at k es e.b.0 else root_at k es t

-- The arrays are those of the edges, which are listed oldest first.
pub record ArraysShow (parents stamps : List ℕ) (edges : List Edge) : Type 0 where
  -- the term above each term
  pub parents_are : parents ≡ parents_by (length parents) (reverse edges)
  -- the edge that put it there
  pub stamps_are : stamps ≡ stamps_by (length parents) (reverse edges)
  -- no edge was between linked terms
  pub apart : EdgesAreApart (length parents) (reverse edges)

-- the terms and edges at a mark
abbrev pub state_at : List Edge → EdgeMark → ForestState
state_at edges m = record { terms = m.terms; edges = reverse (take m.edges edges) }

-- A mark has no more edges and terms than there are, and its edges are between its terms.
pub record IsMark (terms : ℕ) (edges : List Edge) (m : EdgeMark) : Type 0 where
  -- its terms are there
  pub few_terms : m.terms ≤ terms
  -- its edges are there
  pub few_edges : m.edges ≤ length edges
  -- its edges are between its terms
  pub apart : EdgesAreApart m.terms (reverse (take m.edges edges))

-- One mark was set before another.
pub record IsBefore (m later : EdgeMark) : Type 0 where
  -- there were no more terms
  pub few_terms : m.terms ≤ later.terms
  -- there were no more edges
  pub few_edges : m.edges ≤ later.edges

-- marks, oldest first
abbrev pub AreEdgeMarks : ℕ → List Edge → List EdgeMark → Type 0
AreEdgeMarks terms edges [] = Unit {0}
AreEdgeMarks terms edges (m ∷ ms) = IsMark terms edges m × All (IsBefore m) ms × AreEdgeMarks terms edges ms

-- What the parts of a forest keep.
pub record ForestFits (parents stamps : List ℕ) (edges : List Edge) (marks : List EdgeMark) (room : ℕ) : Type 0 where
  -- the arrays are those of the edges
  pub shows : ArraysShow parents stamps edges
  -- the marks are older states
  pub marked : AreEdgeMarks (length parents) edges marks
  -- there is room for as many edges as terms
  pub fits : length parents ≤ room

-- The edge of the number k is the newest on the path from x to y, from its first end to its second or the other way.
abbrev pub Tops : List Edge → ℕ → ℕ → ℕ → Bool → Type 0
Tops es x y k true = (k < length es) × (root_at k es x ≢ root_at k es y)
    × (root_at k es x ≡ root_at k es (numbered es k).a.0) × (root_at k es y ≡ root_at k es (numbered es k).b.0)
Tops es x y k false = (k < length es) × (root_at k es x ≢ root_at k es y)
    × (root_at k es x ≡ root_at k es (numbered es k).b.0) × (root_at k es y ≡ root_at k es (numbered es k).a.0)

-- of two stamps the first is the older: 0 is none
abbrev pub IsOlder : ℕ → ℕ → Type 0
IsOlder u v = (0 < u) × ((v ≡ 0) ⊎ (u < v))

-- Two terms climbed to two others, which were their roots after so many edges.
pub record Climbs (n : ℕ) (es : List Edge) (stamps : List ℕ) (start at : ℕ × ℕ) : Type 0 where
  -- after how many edges
  pub level : ℕ
  -- both are terms
  pub low : (at.0 < n) × (at.1 < n)
  -- the edge over the first is newer, if there is one
  pub later_left : (slice_index stamps at.0 ≡ 0) ⊎ (level < slice_index stamps at.0)
  -- and that over the second
  pub later_right : (slice_index stamps at.1 ≡ 0) ⊎ (level < slice_index stamps at.1)
  -- the first was a root
  pub over_left : root_at level es start.0 ≡ at.0
  -- and the second
  pub over_right : root_at level es start.1 ≡ at.1
  -- they have not met
  pub apart : at.0 ≢ at.1
