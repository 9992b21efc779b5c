-- The definitions of a model that a reader has still to give, and what ends them.
use Rattle.std.specs.Prelude.{◌≡◌, ◌-◌, ◌<◌, ℕ, List, length, Option, Some, None, Result, Ok, Err}
use Rattle.spec_text.specs.Lexemes.{Lexeme, lexemes_from}
use Rattle.spec_text.specs.Trees.{Trees, none, more}
use Rattle.spec_text.specs.Readings.{kept}
use Rattle.spec_proofs.specs.Texts.{Ending}
use Rattle.spec_model_files.specs.Faults.{ModelFault}
use Rattle.spec_model_files.specs.Texts.{ModelEnding, ends, IsModelText}
use Rattle.smt_sexpr.specs.declared.sexpr.Sexpr.{Sexpr}
use Rattle.smt_sexpr.specs.Items.{tree_of}
use Rattle.smt_sexpr.specs.Limited.{whole_of}
use Rattle.model_read.specs.declared.errors.ReadError.{ReadError}
use Rattle.model_read.specs.declared.errors.ReadError.TheVariants as errors
use Rattle.model_read.specs.declared.reader.Reader.{Reader}
use Rattle.model_read.specs.Answers.{located_view}
use Rattle.model_read.specs.Endings.{AreLeft, EndsHere, IsEnding}

-- the whole text of a model
abbrev pub text_of : Reader → List ℕ
text_of r = whole_of r.text

-- the lexemes that are not yet read
abbrev pub lexemes_of : Reader → List (ℕ × Lexeme)
lexemes_of r = lexemes_from (kept (text_of r)) r.at.offset

-- how many bytes are not yet read
abbrev pub bytes_left : Reader → ℕ
bytes_left r = length (kept (text_of r)) - r.at.offset

-- these definitions are to come, and then this ends them
abbrev pub AreRemaining : Reader → Trees → Ending → Type 0
AreRemaining r ts e = AreLeft (length (kept (text_of r))) (lexemes_of r) ts e

-- A definition was read: it was the first, and the others come after it.
pub record HasRead (old : Reader) (s : Sexpr) (new : Reader) : Type 0 where
  -- the others
  pub others : Trees
  -- what ends them
  pub ending : Ending
  -- they are to come
  pub remain : AreRemaining new others ending
  -- what is to come was to come after the definition
  pub first : (ts : Trees) (e : Ending) → AreRemaining new ts e → AreRemaining old (more (tree_of s) ts) e
  -- fewer bytes are left
  pub fewer : bytes_left new < bytes_left old

-- no definition is to come, and what ends them is this fault, or none
abbrev pub EndsDefinitions : Reader → Option ModelFault → Type 0
EndsDefinitions r found = EndsHere (text_of r) (lexemes_of r) found

-- the next definition was read; or none is to come, and nothing, or this fault, ends them
abbrev pub ReadsOn : Reader → Result (Option Sexpr) ReadError → Reader → Type 0
ReadsOn old (Ok (Some s)) new = HasRead old s new
ReadsOn old (Ok None) new = (new ≡ old) × EndsDefinitions old None
ReadsOn old (Err (errors.Fault f)) new = (new ≡ old) × EndsDefinitions old (Some (located_view f))
ReadsOn old (Err errors.Memory) new = new ≡ old

-- A text has no list, by this fault.
pub record HasNoDefinitions (text : List ℕ) (f : ModelFault) : Type 0 where
  -- what is there
  pub ending : ModelEnding
  -- it is that of the text
  pub read : IsModelText text none ending
  -- it is the fault
  pub is : IsEnding text ending (Some f)

-- A reader begins with the definitions of a text.
pub record BeginsAt (text : List ℕ) (r : Reader) : Type 0 where
  -- it is of the text
  pub whole : text_of r ≡ text
  -- what is to come is the whole of it
  pub all : (ts : Trees) (e : Ending) → AreRemaining r ts e → IsModelText text ts (ends e)

-- the list of a text was found, or it has none, unless memory ran out
abbrev pub BeginsText : List ℕ → Result Reader ReadError → Type 0
BeginsText text (Ok r) = BeginsAt text r
BeginsText text (Err (errors.Fault f)) = HasNoDefinitions text (located_view f)
BeginsText text (Err errors.Memory) = Unit {0}
