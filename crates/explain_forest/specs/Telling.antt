-- A path is explained part by part.
use Rattle.std.specs.Prelude.{◌≡◌, ℕ, ◌+◌, ◌*◌, ◌<◌, Bool, true, false, List, [], ◌∷◌, ◌++◌, Option, Some, None, length}
use Rattle.std.specs.Prelude.{All}
use Rattle.explain_forest.specs.declared.types.Edge.{Edge}
use Rattle.explain_forest.specs.declared.types.PathStep.{PathStep}
use Rattle.explain_forest.specs.declared.types.PathPart.{PathPart}
use Rattle.explain_forest.specs.Forest.{Linked, path, forth, back}

-- a step, if there is one
abbrev pub steps_of : Option PathStep → List PathStep
steps_of None = []
steps_of (Some s) = s ∷ []

-- the step that a part begins with, if there is one
abbrev pub step_of : PathPart → List PathStep
step_of p = steps_of p.step

-- what a part tells
abbrev pub told : List Edge → PathPart → List PathStep
told es p = step_of p ++ path es p.from.0 p.to.0

-- what parts tell, the last one first
abbrev pub told_all : List Edge → List PathPart → List PathStep
told_all es [] = []
told_all es (p ∷ ps) = told_all es ps ++ told es p

-- each path is between linked terms
abbrev pub AreTold : ℕ → List Edge → List PathPart → Type 0
AreTold n es ps = All (λ p. (p.from.0 < n) × (p.to.0 < n) × Linked es p.from.0 p.to.0) ps

-- no fewer turns than a part takes
abbrev pub cost : List Edge → PathPart → ℕ
cost es p = 1 + 3 * length (path es p.from.0 p.to.0)

-- no fewer than all take
abbrev pub costs : List Edge → List PathPart → ℕ
costs es [] = 0
costs es (p ∷ ps) = cost es p + costs es ps

-- the path up to an edge
abbrev pub first : Edge → Bool → PathPart → PathPart
first e true p = record { step = None; from = p.from; to = e.a }
first e false p = record { step = None; from = p.from; to = e.b }

-- the edge of a number, and the path from there
abbrev pub second : Edge → ℕ → Bool → PathPart → PathPart
second e k true p = record { step = Some (forth k e); from = e.b; to = p.to }
second e k false p = record { step = Some (back k e); from = e.a; to = p.to }

-- the two halves of a part at an edge of a number: what comes first is last
abbrev pub halves : Edge → ℕ → Bool → PathPart → List PathPart
halves e k along p = second e k along p ∷ first e along p ∷ []

-- Parts that are left, and the steps that were told.
pub record Telling : Type 0 where
  -- what is left, of which the last comes first
  pub parts : List PathPart
  -- what was told
  pub out : List PathStep

-- A part, which was the last, is explained: what is explained with what is left is the same, and less is left.
pub record Turns (n : ℕ) (es : List Edge) (p : PathPart) (old new : Telling) : Type 0 where
  -- the whole is the same
  pub whole : (steps : List PathStep) → old.out ++ told_all es (old.parts ++ p ∷ []) ≡ steps
      → new.out ++ told_all es new.parts ≡ steps
  -- less is left
  pub less : costs es new.parts < costs es (old.parts ++ p ∷ [])
  -- each path is between linked terms
  pub linked : AreTold n es old.parts → AreTold n es new.parts
