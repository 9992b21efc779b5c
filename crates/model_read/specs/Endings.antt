-- What ends the definitions of a model's text, and which of them are there from a lexeme on.
use Rattle.std.specs.Prelude.{◌≡◌, ℕ, List, ◌∷◌, length, Option, Some, None, Result, Ok, Err}
use Rattle.spec_text.specs.declared.Place.{Place}
use Rattle.spec_text.specs.Places.{IsPlaceOf}
use Rattle.spec_text.specs.Lexemes.{Lexeme, opens, lexemes_from}
use Rattle.spec_text.specs.Trees.{Trees, none}
use Rattle.spec_text.specs.Readings.{AreTrees, kept, is_long}
use Rattle.spec_proofs.specs.Texts.{Ending, EndsList, EndsBehind}
use Rattle.spec_model_files.specs.Faults.{ModelFault}
use Rattle.spec_model_files.specs.Texts.{ModelEnding, ends, AreDefinitions, ending_fault}
use Rattle.model_read.specs.declared.errors.ReadError.{ReadError}
use Rattle.model_read.specs.declared.errors.ReadError.TheVariants as errors
use Rattle.model_read.specs.Answers.{located_view}

-- The lexemes are these definitions and this ending, in a list whose parenthesis is before them.
pub record AreLeft (end : ℕ) (xs : List (ℕ × Lexeme)) (ts : Trees) (e : Ending) : Type 0 where
  -- the lexemes after the definitions
  pub rest : List (ℕ × Lexeme)
  -- the definitions come first
  pub trees : AreTrees xs ts rest
  -- the ending is after them
  pub after : EndsList end rest e

-- an ending of a text is this fault, or none
abbrev pub IsEnding : List ℕ → ModelEnding → Option ModelFault → Type 0
IsEnding text e found = ending_fault (length text) (is_long text) e ≡ found

-- The lexemes begin with no definition, and their ending is this fault, or none.
pub record EndsHere (text : List ℕ) (xs : List (ℕ × Lexeme)) (found : Option ModelFault) : Type 0 where
  -- the ending
  pub ending : Ending
  -- no definition is before it
  pub left : AreLeft (length (kept text)) xs none ending
  -- it is that
  pub is : IsEnding text (ends ending) found

-- What follows the list is this fault, or nothing does.
pub record FollowsList (text : List ℕ) (xs : List (ℕ × Lexeme)) (found : Option ModelFault) : Type 0 where
  -- the ending
  pub ending : Ending
  -- it comes after the list
  pub behind : EndsBehind (length (kept text)) xs ending
  -- it is that
  pub is : IsEnding text (ends ending) found

-- nothing follows the list, or the fault of what does
abbrev pub Leaves : List ℕ → List (ℕ × Lexeme) → Result (Unit {0}) ReadError → Type 0
Leaves text xs (Ok u) = FollowsList text xs None
Leaves text xs (Err (errors.Fault f)) = FollowsList text xs (Some (located_view f))
Leaves text xs (Err errors.Memory) = Unit {0}

-- no parenthesis opens first
abbrev pub HasNoOpening : List (ℕ × Lexeme) → Type 0
HasNoOpening xs = (begin : ℕ) (rest : List (ℕ × Lexeme)) → xs ≡ (begin, opens) ∷ rest → ⊥

-- a list begins here, with this place after its parenthesis; or none does
abbrev pub FindsList : List ℕ → List (ℕ × Lexeme) → Option Place → Type 0
FindsList text xs (Some inside) = ((begin : ℕ) × (xs ≡ (begin, opens) ∷ lexemes_from text inside.offset))
    × IsPlaceOf text inside
FindsList text xs None = HasNoOpening xs

-- There is no list, and this is the fault.
pub record IsNoList (text : List ℕ) (xs : List (ℕ × Lexeme)) (f : ModelFault) : Type 0 where
  -- what is there
  pub ending : ModelEnding
  -- there are no definitions
  pub none_there : AreDefinitions (length (kept text)) xs none ending
  -- the ending is the fault
  pub is : IsEnding text ending (Some f)

-- there is no list, and this is the fault, unless memory ran out
abbrev pub HasNoList : List ℕ → List (ℕ × Lexeme) → ReadError → Type 0
HasNoList text xs (errors.Fault f) = IsNoList text xs (located_view f)
HasNoList text xs errors.Memory = Unit {0}
