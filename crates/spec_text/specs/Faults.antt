-- The first lexical fault of a text: a property of its lexemes, apart from the trees.
use Rattle.std.specs.Prelude.{ℕ, zero, suc, List, [], ◌∷◌, length, Option, Some, None}
use Rattle.spec_text.specs.declared.Fault.{Fault}
use Rattle.spec_text.specs.declared.Fault.TheVariants.{UnclosedList, StrayClose}
use Rattle.spec_text.specs.Lexemes.{Lexeme, blank, opens, closes, word, wrong, lexemes}

-- A fault with the offset that it is at.
pub record Located : Type 0 where
  pub offset : ℕ
  pub fault : Fault

-- a fault that there is, with its offset
abbrev pub located : ℕ → Fault → Option Located
located at f = Some (record { offset = at; fault = f })

-- the first fault of lexemes after so many open lists, where the text ends at an offset
unfoldable pub first_fault : (end : ℕ) → ℕ → List (ℕ × Lexeme) → Option Located
first_fault end zero [] = None
first_fault end (suc n) [] = located end UnclosedList
first_fault end n ((at, blank) ∷ xs) = first_fault end n xs
first_fault end n ((at, opens) ∷ xs) = first_fault end (suc n) xs
first_fault end zero ((at, closes) ∷ xs) = located at StrayClose
first_fault end (suc n) ((at, closes) ∷ xs) = first_fault end n xs
first_fault end n ((at, word k bytes) ∷ xs) = first_fault end n xs
first_fault end n ((at, wrong f) ∷ xs) = located at f

-- the first fault of a text but for its length
abbrev pub lexical_fault : List ℕ → Option Located
lexical_fault text = first_fault (length text) 0 (lexemes 0 0 text)
