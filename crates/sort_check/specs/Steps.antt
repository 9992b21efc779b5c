-- What the steps of a walk do.
use Rattle.std.specs.Prelude.{◌≡◌, ℕ, ◌<◌, Bool, true, false, [], ◌++◌, take, drop, reverse, Result, Err}
use Rattle.spec_text.specs.Trees.{Tree, Trees, none}
use Rattle.spec_sorts.specs.Signatures.{Signature}
use Rattle.spec_reading.specs.Names.{Setting}
use Rattle.spec_reading.specs.Reading.{Bound, reading, let_reading, annotated_reading}
use Rattle.term_reader.specs.declared.faults.ReadError.{ReadError}
use Rattle.term_reader.specs.declared.faults.ReadError.TheVariants.{Fault}
use Rattle.sort_check.specs.Bindings.{BindingsView}
use Rattle.sort_check.specs.Walks.{Here, all_left}

-- no memory is the only error
abbrev pub IsMemory : {A : Type 0} → Result A ReadError → Type 0
IsMemory (Err (Fault f)) = ⊥
IsMemory r = Unit {0}

-- The names that wait from a place on are bound, the last one first.
pub record HasBound (from : ℕ) (waiting bound no_more more : BindingsView) : Type 0 where
  -- the names that waited before are left
  pub names : no_more.names ≡ take from waiting.names
  -- and their terms
  pub terms : no_more.terms ≡ take from waiting.terms
  -- the others are bound
  pub bound_names : more.names ≡ bound.names ++ reverse (drop from waiting.names)
  -- with their terms
  pub bound_terms : more.terms ≡ bound.terms ++ reverse (drop from waiting.terms)

-- the text is a `let` at an offset
abbrev pub IsLetAt : Setting → Tree → ℕ → Trees → Type 0
IsLetAt w t at us = (s : Signature) (b : Bound) → reading w s b t ≡ let_reading w s b at us

-- the text is a term with attributes at an offset
abbrev pub IsAnnotatedAt : Setting → Tree → ℕ → Trees → Type 0
IsAnnotatedAt w t at us = (s : Signature) (b : Bound) → reading w s b t ≡ annotated_reading w s b at us

-- there was a step, and less is left; or all is read
abbrev pub Steps : Bool → (old new : Here) → Type 0
Steps true old new = all_left new < all_left old
Steps false old new = (new ≡ old) × (new.frames ≡ []) × (new.rest ≡ none)
