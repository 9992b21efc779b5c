-- The definitions of a model file: after the word `sat` or without it, in one list after which nothing follows. Source:
-- SMT-LIB 2.6, section 4.2.6; the word is own.
use Rattle.std.specs.Prelude.{◌≡◌, ℕ, Bool, true, List, [], ◌∷◌, length, Option, Some, None, codes}
use Rattle.std.specs.Prelude.{if◌then◌else◌}
use Rattle.spec_text.specs.Faults.{Located}
use Rattle.spec_text.specs.Lexemes.{Lexeme, opens, word, lexemes}
use Rattle.spec_text.specs.Readings.{IsBroken, kept, too_long, at_limit}
use Rattle.spec_text.specs.Trees.{Trees, none}
use Rattle.spec_proofs.specs.Texts.{Ending, complete, broken, left_over, AreCommands}
use Rattle.spec_model_files.specs.declared.ModelKind.TheVariants.{BadShape}
use Rattle.spec_model_files.specs.Faults.{ModelFault, model_fault, text_fault}
use Rattle.spec_model_files.specs.Values.{is_named}

-- the lexemes without a first word `sat`
abbrev pub behind_sat : List (ℕ × Lexeme) → List (ℕ × Lexeme)
behind_sat ((at, word k n) ∷ xs) = if is_named (codes "sat") k n then xs else (at, word k n) ∷ xs
behind_sat xs = xs

-- What comes after the definitions.
pub data ModelEnding : Type 0 where
  -- what comes after their list, or an atom or what cannot be read in place of it
  ends : Ending → ModelEnding
  -- the end of the text, in which there is no list
  no_list : ModelEnding

-- the lexemes of a text that ends at an offset are these definitions in one list, with this ending; without a list
-- there are none
abbrev pub AreDefinitions : ℕ → List (ℕ × Lexeme) → Trees → ModelEnding → Type 0
AreDefinitions end [] ts e = (ts ≡ none) × (e ≡ no_list)
AreDefinitions end ((at, opens) ∷ xs) ts e =
    (f : Ending) × AreCommands true end ((at, opens) ∷ xs) ts f × (e ≡ ends f)
AreDefinitions end ((at, word k n) ∷ xs) ts e = (ts ≡ none) × (e ≡ ends (left_over at))
AreDefinitions end xs ts e = (ts ≡ none) × (f : Located) × IsBroken end 0 xs f × (e ≡ ends (broken f))

-- the lexemes of the part of a model file that is read, after the word
abbrev pub model_lexemes : List ℕ → List (ℕ × Lexeme)
model_lexemes text = behind_sat (lexemes 0 0 (kept text))

-- the text is these definitions with this ending
abbrev pub IsModelText : List ℕ → Trees → ModelEnding → Type 0
IsModelText text ts e = AreDefinitions (length (kept text)) (model_lexemes text) ts e

-- the fault of a text's end, where it has bytes that are not read, or else the other one
abbrev pub unless_long : Bool → Option ModelFault → Option ModelFault
unless_long long other = if long then Some (text_fault too_long) else other

-- the fault that an ending is, or none, in a text of a length that may have bytes which are not read
abbrev pub ending_fault : ℕ → Bool → ModelEnding → Option ModelFault
ending_fault length long (ends complete) = unless_long long None
ending_fault length long (ends (broken f)) = Some (text_fault (at_limit long f))
ending_fault length long (ends (left_over at)) = Some (model_fault at BadShape)
ending_fault length long no_list = unless_long long (Some (model_fault length BadShape))
