-- What holds of what commands leave.
use Rattle.std.specs.Prelude.{◌≡◌, ◌<◌, ℕ, true, false, List, [], ◌∷◌, ◌++◌, length, nat_le, All, Ok}
use Rattle.spec_sorts.specs.Terms.{Truth, same_sort, sort_of}
use Rattle.spec_sorts.specs.Signatures.{Signature, with_definitions}
use Rattle.spec_reading.specs.Names.{script}
use Rattle.spec_reading.specs.Reading.{Reading, reading}
use Rattle.spec_sorts.specs.Subterms.{subterms_of}
use Rattle.spec_reading.specs.WellSorted.{AreWellSorted}
use Rattle.spec_reading.specs.Agreement.{AreSound}
use Rattle.spec_commands.specs.Stack.{Assertion, ScopedDeclaration, Stack, signature_of, assertions_of, levels_open}
use Rattle.spec_commands.specs.Stack.{is_up_to, is_global, up_to_level}

-- the assertion was read with the oldest names of the signature, before those that it made and all later ones
pub record WasRead (s : Signature) (a : Assertion) : Type 0 where
  -- the names before it
  pub before : Signature
  -- the names after it
  pub after : Signature
  -- what it was read as
  pub found : Reading
  -- it was read with the names before it
  pub read : reading script before [] a.text ≡ Ok found
  -- as its term
  pub same : found.term ≡ a.term
  -- the names before it, those that it made, and the others are those of the signature
  pub names : s ≡ with_definitions before found.made ++ after

-- an assertion as it is under a signature and a limit
pub record IsAsserted (limit : ℕ) (s : Signature) (a : Assertion) : Type 0 where
  -- its term is that of its text
  pub read : WasRead s a
  -- the term has the sort Bool
  pub sort : same_sort Truth (sort_of a.term) ≡ true
  -- there is room for it
  pub room : nat_le (length (subterms_of (a.term ∷ []))) limit ≡ true

-- What commands leave under a limit: names and assertions.
pub record AreSoundNames (limit : ℕ) (g : Signature) (assertions : List Assertion) : Type 0 where
  -- each name gives by its text what its term gives
  pub names : AreSound g
  -- each definition stands for a well-sorted term
  pub sorts : AreWellSorted g
  -- the assertions were read, and fit in
  pub assertions_read : All (IsAsserted limit g) assertions

-- Names belong to levels that are there, or all are global.
pub record AreLeveled (s : Stack) : Type 0 where
  -- there is the first level
  pub first : 0 < length s.levels
  -- the level of each name is there
  pub names : All (λ (e : ScopedDeclaration). is_up_to (levels_open s.levels) e.level ≡ true) s.names
  -- a name is global exactly where the option is set
  pub alike : All (λ (e : ScopedDeclaration). is_global e.level ≡ s.options.global_declarations) s.names
  -- at the start there is no name, and no level is open
  pub early : s.started ≡ false → (s.names ≡ []) × (levels_open s.levels ≡ 0)

-- What holds of names and assertions does at each level: of those up to it.
pub record AtEachLevel (P : Signature → List Assertion → Type 0) (s : Stack) : Type 0 where
  -- names belong to levels that are there
  pub leveled : AreLeveled s
  -- it holds of those up to a level, 0 for the first one, and of all where there is no such level
  pub each : (k : ℕ) → P (signature_of (up_to_level k s)) (assertions_of (up_to_level k s))

-- what commands leave under a limit, at each level
abbrev pub IsSoundStack : ℕ → Stack → Type 0
IsSoundStack limit s = AtEachLevel (AreSoundNames limit) s
