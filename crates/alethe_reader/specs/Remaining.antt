-- The commands of a proof that a reader has still to give, and what ends them.
use Rattle.std.specs.Prelude.{◌≡◌, ◌-◌, ◌<◌, ℕ, List, length, Option, Some, None, Result, Ok, Err}
use Rattle.spec_text.specs.Lexemes.{Lexeme, lexemes_from}
use Rattle.spec_text.specs.Trees.{Trees, more}
use Rattle.spec_text.specs.Readings.{kept}
use Rattle.spec_proofs.specs.Faults.{Fault}
use Rattle.spec_proofs.specs.Texts.{Ending}
use Rattle.smt_sexpr.specs.declared.sexpr.Sexpr.{Sexpr}
use Rattle.smt_sexpr.specs.Items.{tree_of}
use Rattle.smt_sexpr.specs.Limited.{whole_of}
use Rattle.alethe_reader.specs.declared.errors.CommandError.{CommandError}
use Rattle.alethe_reader.specs.declared.errors.CommandError.TheVariants as errors
use Rattle.alethe_reader.specs.declared.reader.Reader.{Reader}
use Rattle.alethe_reader.specs.Endings.{AreLeft, EndsHere}
use Rattle.alethe_reader.specs.Reads.{located_view}

-- the whole text of a proof
abbrev pub text_of : Reader → List ℕ
text_of r = whole_of r.text

-- the lexemes that are not yet read
abbrev pub lexemes_of : Reader → List (ℕ × Lexeme)
lexemes_of r = lexemes_from (kept (text_of r)) r.at.offset

-- how many bytes are not yet read
abbrev pub bytes_left : Reader → ℕ
bytes_left r = length (kept (text_of r)) - r.at.offset

-- these commands are to come, and then this ends them
abbrev pub AreRemaining : Reader → Trees → Ending → Type 0
AreRemaining r ts e = AreLeft r.listed (length (kept (text_of r))) (lexemes_of r) ts e

-- A command was read: it was the first, and the others come after it.
pub record HasRead (old : Reader) (s : Sexpr) (new : Reader) : Type 0 where
  -- the others
  pub others : Trees
  -- what ends them
  pub ending : Ending
  -- they are to come
  pub remain : AreRemaining new others ending
  -- what is to come was to come after the command
  pub first : (ts : Trees) (e : Ending) → AreRemaining new ts e → AreRemaining old (more (tree_of s) ts) e
  -- fewer bytes are left
  pub fewer : bytes_left new < bytes_left old

-- no command is to come, and what ends them is this fault, or none
abbrev pub EndsCommands : Reader → Option Fault → Type 0
EndsCommands r found = EndsHere r.listed (text_of r) (lexemes_of r) found

-- the next command was read; or none is to come, and nothing, or this fault, ends them
abbrev pub ReadsOn : Reader → Result (Option Sexpr) CommandError → Reader → Type 0
ReadsOn old (Ok (Some s)) new = HasRead old s new
ReadsOn old (Ok None) new = (new ≡ old) × EndsCommands old None
ReadsOn old (Err (errors.Fault f)) new = (new ≡ old) × EndsCommands old (Some (located_view f))
ReadsOn old (Err errors.Memory) new = new ≡ old
