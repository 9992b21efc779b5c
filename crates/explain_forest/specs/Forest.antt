-- Edges between terms, newest first, and the path between two terms.
use Rattle.std.specs.Prelude.{◌≡◌, ℕ, ◌<◌, ◌==◌, nat_lt, ◌⊎◌, false, List, [], ◌∷◌, ◌++◌, length, All, if◌then◌else◌}
use Rattle.explain_forest.specs.declared.types.Edge.{Edge}
use Rattle.explain_forest.specs.declared.types.Label.TheVariants.{Held}
use Rattle.explain_forest.specs.declared.types.PathStep.{PathStep}

-- How many terms there are, and the edges between them.
pub record ForestState : Type 0 where
  -- the numbers below it are terms
  pub terms : ℕ
  -- the edges, newest first
  pub edges : List Edge

-- What contracts see of a forest.
pub record ForestView : Type 0 where
  -- as it is
  pub now : ForestState
  -- as it was at each mark, oldest mark first
  pub marks : List ForestState

-- The term that stands for all that are linked to a term. Each edge puts the root of its first term under that of its
-- second.
abbrev pub root : List Edge → ℕ → ℕ
root [] t = t
root (e ∷ es) t = if root es t == root es e.a.0 then root es e.b.0 else root es t

-- edges lead from one term to the other
abbrev pub Linked : List Edge → ℕ → ℕ → Type 0
Linked es x y = root es x ≡ root es y

-- An edge is between two terms. Older ones link the first to its first end and its second end to the second, or the
-- other way.
abbrev pub IsBetween : List Edge → Edge → ℕ → ℕ → Type 0
IsBetween es e x y = (Linked es x e.a.0 × Linked es e.b.0 y) ⊎ (Linked es x e.b.0 × Linked es e.a.0 y)

-- the step along the edge of a number, from its first end to its second
abbrev pub forth : ℕ → Edge → PathStep
forth k e = record { from = e.a; to = e.b; label = e.label; edge = k }

-- the step along it from its second end to its first
abbrev pub back : ℕ → Edge → PathStep
back k e = record { from = e.b; to = e.a; label = e.label; edge = k }

-- The path between two linked terms: that of the older edges where these link them, else over the newest.
abbrev pub path : List Edge → ℕ → ℕ → List PathStep
path [] x y = []
path (e ∷ es) x y =
    if root es x == root es y then path es x y
    else if root es x == root es e.a.0 then path es x e.a.0 ++ forth (length es) e ∷ path es e.b.0 y
    else path es x e.b.0 ++ back (length es) e ∷ path es e.a.0 y

-- no edge
abbrev pub no_edge : Edge
no_edge = record {
  a = record { 0 = 0 };
  b = record { 0 = 0 };
  label = Held (record { term = record { 0 = 0 }; positive = false });
}

-- the edge of a number, which is how many are older
abbrev pub numbered : List Edge → ℕ → Edge
numbered [] k = no_edge
numbered (e ∷ es) k = if k == length es then e else numbered es k

-- so many of the oldest edges
abbrev pub older : List Edge → ℕ → List Edge
older [] k = []
older (e ∷ es) k = if nat_lt (length es) k then e ∷ es else older es k

-- who takes these steps from one term comes to the other
abbrev pub PathLeads : ℕ → List PathStep → ℕ → Type 0
PathLeads x [] y = x ≡ y
PathLeads x (s ∷ ss) y = (s.from.0 ≡ x) × PathLeads s.to.0 ss y

-- the step goes along the edge of its number, either way
abbrev pub IsAlong : List Edge → PathStep → Type 0
IsAlong es s = (s.edge < length es)
    × ((s ≡ forth s.edge (numbered es s.edge)) ⊎ (s ≡ back s.edge (numbered es s.edge)))

-- each step does
abbrev pub AlongEdges : List Edge → List PathStep → Type 0
AlongEdges es steps = All (IsAlong es) steps
