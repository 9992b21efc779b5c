-- What ends the commands of a proof's text, and which of them are there from a lexeme on.
use Rattle.std.specs.Prelude.{◌≡◌, ℕ, Bool, true, false, List, ◌∷◌, length, Option, Some, None, Result, Ok, Err}
use Rattle.spec_text.specs.Lexemes.{Lexeme, opens, closes}
use Rattle.spec_text.specs.Trees.{Trees, none}
use Rattle.spec_text.specs.Readings.{AreTrees, kept, is_long}
use Rattle.spec_proofs.specs.Faults.{Fault}
use Rattle.spec_proofs.specs.Texts.{Ending, EndsRow, EndsList, EndsBehind, ending_fault}
use Rattle.alethe_reader.specs.declared.errors.CommandError.{CommandError}
use Rattle.alethe_reader.specs.declared.errors.CommandError.TheVariants as errors
use Rattle.alethe_reader.specs.Reads.{located_view}

-- a parenthesis comes first
abbrev pub begins_parenthesis : List (ℕ × Lexeme) → Bool
begins_parenthesis ((at, opens) ∷ xs) = true
begins_parenthesis ((at, closes) ∷ xs) = true
begins_parenthesis xs = false

-- how many lists are open round the commands, in a list or not
abbrev pub lists_round : Bool → ℕ
lists_round true = 1
lists_round false = 0

-- what is after commands, in a list or not, is this ending
abbrev pub EndsIn : Bool → ℕ → List (ℕ × Lexeme) → Ending → Type 0
EndsIn false end rest e = EndsRow end rest e
EndsIn true end rest e = EndsList end rest e

-- The lexemes are these commands and this ending, in a list whose parenthesis is before them, or in none.
pub record AreLeft (listed : Bool) (end : ℕ) (xs : List (ℕ × Lexeme)) (ts : Trees) (e : Ending) : Type 0 where
  -- the lexemes after the commands
  pub rest : List (ℕ × Lexeme)
  -- the commands come first
  pub trees : AreTrees xs ts rest
  -- the ending is after them
  pub ends : EndsIn listed end rest e

-- an ending of a text is this fault, or none
abbrev pub IsEnding : List ℕ → Ending → Option Fault → Type 0
IsEnding text e found = ending_fault (is_long text) e ≡ found

-- The lexemes begin with no command, and their ending is this fault, or none.
pub record EndsHere (listed : Bool) (text : List ℕ) (xs : List (ℕ × Lexeme)) (found : Option Fault) : Type 0 where
  -- the ending
  pub ending : Ending
  -- no command is before it
  pub left : AreLeft listed (length (kept text)) xs none ending
  -- it is that
  pub is : IsEnding text ending found

-- What follows the list of commands is this fault, or nothing does.
pub record FollowsCommands (text : List ℕ) (xs : List (ℕ × Lexeme)) (found : Option Fault) : Type 0 where
  -- the ending
  pub ending : Ending
  -- it comes after the list
  pub behind : EndsBehind (length (kept text)) xs ending
  -- it is that
  pub is : IsEnding text ending found

-- nothing follows the list of commands, or the fault of what does
abbrev pub Leaves : List ℕ → List (ℕ × Lexeme) → Result (Unit {0}) CommandError → Type 0
Leaves text xs (Ok u) = FollowsCommands text xs None
Leaves text xs (Err (errors.Fault f)) = FollowsCommands text xs (Some (located_view f))
Leaves text xs (Err errors.Memory) = Unit {0}
