-- Trails as contracts see them, and what comes of each call.
use Rattle.std.specs.Prelude.{◌≡◌, ◌+◌, ◌<◌, ◌≤◌, min, ℕ, Bool, true, false, List, [], ◌∷◌, ◌++◌, length, take, get_or}
use Rattle.std.specs.Prelude.{Contains, Option, Some, None}
use Rattle.std.specs.List.{AllPairs}
use Rattle.term_core.specs.declared.ids.Lit.{Lit}
use Rattle.clause_literals.specs.Literals.{lit_complement}

-- Literals that hold, oldest first, with their levels and reasons.
pub record TrailView : Type 0 where
  -- the literals
  pub literals : List Lit
  -- the level of each, in the same order
  pub levels : List ℕ
  -- the number of the step that implied each, or none where it was decided, in the same order
  pub reasons : List (Option ℕ)
  -- how many variables there are: the terms of the numbers below
  pub vars : ℕ
  -- the level of what is implied next
  pub level : ℕ
  -- how many of the oldest literals are marked as propagated
  pub propagated : ℕ

-- the trail of so many variables, none of which has a value
abbrev pub unassigned : ℕ → TrailView
unassigned vars = record { literals = []; levels = []; reasons = []; vars = vars; level = 0; propagated = 0 }

-- the trail of no variables
abbrev pub empty : TrailView
empty = unassigned 0

-- what no place has
abbrev pub no_lit : Lit
no_lit = record { term = record { 0 = 0 }; positive = false }

-- no two of the literals have one variable
abbrev pub VariablesAreApart : List Lit → Type 0
VariablesAreApart literals = AllPairs (λ (l m : Lit). l.term ≡ m.term → ⊥) literals

-- neither the literal holds nor its complement
pub record IsUnassigned (held : List Lit) (l : Lit) : Type 0 where
  -- it does not hold
  pub not_held : Contains held l → ⊥
  -- and is not false
  pub not_false : Contains held (lit_complement l) → ⊥

-- the value of a literal: it holds, its complement holds, or neither
abbrev pub HasValue : List Lit → Lit → Option Bool → Type 0
HasValue held l (Some true) = Contains held l
HasValue held l (Some false) = Contains held (lit_complement l)
HasValue held l None = IsUnassigned held l

-- Literals and level are as they were.
pub record HasSame (old new : TrailView) : Type 0 where
  -- the literals
  pub literals : new.literals ≡ old.literals
  -- their levels
  pub levels : new.levels ≡ old.levels
  -- their reasons
  pub reasons : new.reasons ≡ old.reasons
  -- the level
  pub level : new.level ≡ old.level

-- A literal is last, with a reason, at a level that is the trail's from then on.
pub record IsPushed (old : TrailView) (l : Lit) (reason : Option ℕ) (n : ℕ) (new : TrailView) : Type 0 where
  -- the literal is the last
  pub literals : new.literals ≡ old.literals ++ l ∷ []
  -- it is of the level
  pub levels : new.levels ≡ old.levels ++ n ∷ []
  -- it has the reason
  pub reasons : new.reasons ≡ old.reasons ++ reason ∷ []
  -- the level is the trail's
  pub level : new.level ≡ n
  -- there are as many variables
  pub vars : new.vars ≡ old.vars
  -- as many are marked
  pub propagated : new.propagated ≡ old.propagated

-- Exactly the literals up to a level stay.
pub record IsCutTo (old : TrailView) (level : ℕ) (new : TrailView) : Type 0 where
  -- how many these are
  pub kept : ℕ
  -- no more than there were
  pub within : kept ≤ length old.literals
  -- each of them is of that level or one below
  pub below : (p : ℕ) → p < kept → get_or old.levels p 0 ≤ level
  -- each other one is of a level above
  pub above : (p : ℕ) → kept ≤ p → p < length old.literals → level < get_or old.levels p 0
  -- they stay, with levels and reasons
  pub literals : new.literals ≡ take kept old.literals
  pub levels : new.levels ≡ take kept old.levels
  pub reasons : new.reasons ≡ take kept old.reasons
  -- the level is the trail's
  pub level_is : new.level ≡ level
  -- there are as many variables
  pub vars : new.vars ≡ old.vars
  -- those stay marked that were
  pub propagated : new.propagated ≡ min old.propagated kept

-- Levels rise along the trail, and each level above 0 begins with a decision.
pub record IsLeveled (v : TrailView) : Type 0 where
  -- each literal has a level and a reason
  pub levels_paired : length v.levels ≡ length v.literals
  pub reasons_paired : length v.reasons ≡ length v.literals
  -- none is above the trail's
  pub topped : (p : ℕ) → p < length v.literals → get_or v.levels p 0 ≤ v.level
  -- a later literal is of no lower level
  pub rising : (p q : ℕ) → p < q → q < length v.literals → get_or v.levels p 0 ≤ get_or v.levels q 0
  -- what is decided is above level 0
  pub decided : (q : ℕ) → q < length v.literals → get_or v.reasons q None ≡ None → 0 < get_or v.levels q 0
  -- and above all that is earlier
  pub decided_above : (p q : ℕ) → p < q → q < length v.literals → get_or v.reasons q None ≡ None → get_or v.levels p 0
      < get_or v.levels q 0
  -- each level above 0 has a decision
  pub begun : (n : ℕ) → n < v.level → (p : ℕ) × (p < length v.literals) × (get_or v.reasons p None ≡ None)
      × (get_or v.levels p 0 ≡ n + 1)

-- An earlier trail is the beginning of a later one, whose further literals are all of higher levels.
pub record IsAbove (before after : TrailView) : Type 0 where
  -- there are no fewer literals
  pub within : length before.literals ≤ length after.literals
  -- the first are the earlier ones, with levels and reasons
  pub literals : take (length before.literals) after.literals ≡ before.literals
  pub levels : take (length before.literals) after.levels ≡ before.levels
  pub reasons : take (length before.literals) after.reasons ≡ before.reasons
  -- the others are of higher levels
  pub above : (p : ℕ) → length before.literals ≤ p → p < length after.literals → before.level < get_or after.levels p 0
  -- the level is no lower
  pub level : before.level ≤ after.level
