-- The commands of a proof's text: after the word `unsat` or without it, one after the other, or in one list. Source:
-- Alethe specification, proofs; the word and the list are own.
use Rattle.std.specs.Prelude.{◌≡◌, ℕ, Bool, true, false, ◌⊎◌, List, [], ◌∷◌, ◌++◌, length, Option, Some, None, codes}
use Rattle.std.specs.Prelude.{if◌then◌else◌}
use Rattle.std.specs.Str.{bytes_eq}
use Rattle.spec_text.specs.Lexemes.{Lexeme, opens, closes, word, lexemes}
use Rattle.spec_text.specs.Trees.{Tree, Trees, none, more, spelled_all, offset_of}
use Rattle.spec_text.specs.Shapes.{is_symbol}
use Rattle.spec_text.specs.Faults.{Located}
use Rattle.spec_text.specs.Readings.{IsBroken, AreTrees, kept, too_long, at_limit}
use Rattle.spec_proofs.specs.declared.ProofKind.TheVariants.{BadShape}
use Rattle.spec_proofs.specs.Faults.{Fault, fault_at, text_fault}

-- the lexemes without a first word `unsat`
abbrev pub behind_unsat : List (ℕ × Lexeme) → List (ℕ × Lexeme)
behind_unsat ((at, word k n) ∷ xs) = if is_symbol k then (if bytes_eq n (codes "unsat") then xs else (at, word k n)
    ∷ xs) else (at, word k n) ∷ xs
behind_unsat xs = xs

-- a first list whose first item is a list, or which is empty
abbrev pub begins_listed : List (ℕ × Lexeme) → Bool
begins_listed ((a, opens) ∷ (b, opens) ∷ xs) = true
begins_listed ((a, opens) ∷ (b, closes) ∷ xs) = true
begins_listed xs = false

-- What comes after the commands.
pub data Ending : Type 0 where
  -- nothing
  complete : Ending
  -- what cannot be read
  broken : Located → Ending
  -- a tree, after the list of commands
  left_over : ℕ → Ending

-- after commands that are in no list
abbrev pub EndsRow : ℕ → List (ℕ × Lexeme) → Ending → Type 0
EndsRow end rest complete = rest ≡ []
EndsRow end rest (broken f) = IsBroken end 0 rest f
EndsRow end rest (left_over at) = ⊥

-- after the list of commands: nothing may follow
abbrev pub EndsBehind : ℕ → List (ℕ × Lexeme) → Ending → Type 0
EndsBehind end after complete = after ≡ []
EndsBehind end after (broken f) = IsBroken end 0 after f
EndsBehind end after (left_over at) = (t : Tree) × (rest : List (ℕ × Lexeme)) × AreTrees after (more t none) rest
    × (offset_of t ≡ at)

-- after commands that are in a list: its end and what is after it, or what cannot be read
abbrev pub EndsList : ℕ → List (ℕ × Lexeme) → Ending → Type 0
EndsList end rest e = ((at : ℕ) × (after : List (ℕ × Lexeme)) × (rest ≡ (at, closes) ∷ after) × EndsBehind end after e)
    ⊎ ((f : Located) × IsBroken end 1 rest f × (e ≡ broken f))

-- the lexemes are these commands with this ending, in a list or not
abbrev pub AreCommands : Bool → ℕ → List (ℕ × Lexeme) → Trees → Ending → Type 0
AreCommands false end xs ts e = (rest : List (ℕ × Lexeme)) × AreTrees xs ts rest × EndsRow end rest e
AreCommands true end xs ts e = (at : ℕ) × (inner : List (ℕ × Lexeme)) × (rest : List (ℕ × Lexeme))
    × (xs ≡ (at, opens) ∷ inner) × AreTrees inner ts rest × EndsList end rest e

-- the lexemes are these commands and nothing else, in a list or not, however deep they are nested
abbrev pub AreAllCommands : Bool → List (ℕ × Lexeme) → Trees → Type 0
AreAllCommands false xs ts = xs ≡ spelled_all ts
AreAllCommands true xs ts = (at : ℕ) × (end : ℕ) × (xs ≡ (at, opens) ∷ spelled_all ts ++ (end, closes) ∷ [])

-- the lexemes of a whole proof, after the word
abbrev pub all_lexemes : List ℕ → List (ℕ × Lexeme)
all_lexemes text = behind_unsat (lexemes 0 0 text)

-- the whole text is these commands and nothing else, however long it is
abbrev pub IsWholeText : List ℕ → Trees → Type 0
IsWholeText text ts = AreAllCommands (begins_listed (all_lexemes text)) (all_lexemes text) ts

-- the lexemes of the part of a proof that is read, after the word
abbrev pub proof_lexemes : List ℕ → List (ℕ × Lexeme)
proof_lexemes text = all_lexemes (kept text)

-- the text is these commands with this ending
abbrev pub IsProofText : List ℕ → Trees → Ending → Type 0
IsProofText text ts e = AreCommands (begins_listed (proof_lexemes text)) (length (kept text)) (proof_lexemes text) ts e

-- the fault that an ending is, where a text has bytes that are not read, or none
abbrev pub ending_fault : Bool → Ending → Option Fault
ending_fault long complete = if long then Some (text_fault too_long) else None
ending_fault long (broken f) = Some (text_fault (at_limit long f))
ending_fault long (left_over at) = Some (fault_at at BadShape)
