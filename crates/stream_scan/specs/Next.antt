-- What comes next in a text from an offset on: an s-expression, a fault, or what may be either yet.
-- Source: SMT-LIB 2.6, sections 3.1 and 3.2; faults, and what is settled, are own.
use Rattle.std.specs.Prelude.{◌≡◌, ◌+◌, ◌≤◌, ℕ, zero, suc, List, [], ◌∷◌, ◌++◌, length}
use Rattle.spec_text.specs.declared.Kind.{Kind}
use Rattle.spec_text.specs.declared.Kind.TheVariants.{Text, Quoted, Keyword}
use Rattle.spec_text.specs.declared.Fault.{Fault}
use Rattle.spec_text.specs.declared.Fault.TheVariants.{StrayClose}
use Rattle.spec_text.specs.Lexemes.{Lexeme, blank, opens, closes, word, wrong, lexemes_from}
use Rattle.spec_text.specs.Trees.{Tree, atom, list, spelled}
use Rattle.spec_text.specs.Faults.{Located}
use Rattle.spec_text.specs.Readings.{IsBroken}

-- What lexemes begin with.
pub data Outcome : Type 0 where
  -- there is no lexeme
  nothing : Outcome
  -- a list that is open at the end
  unclosed : Outcome
  -- an s-expression, by its lexemes
  whole : List (ℕ × Lexeme) → Outcome
  -- a fault, with its offset
  stops : ℕ → Fault → Outcome

-- one lexeme before the others of an s-expression
abbrev pub prepend : ℕ × Lexeme → Outcome → Outcome
prepend x (whole xs) = whole (x ∷ xs)
prepend x nothing = nothing
prepend x unclosed = unclosed
prepend x (stops at f) = stops at f

-- what lexemes begin with after n open lists
unfoldable pub outcome : ℕ → List (ℕ × Lexeme) → Outcome
outcome zero [] = nothing
outcome (suc n) [] = unclosed
outcome n ((at, blank) ∷ xs) = outcome n xs
outcome n ((at, opens) ∷ xs) = prepend (at, opens) (outcome (suc n) xs)
outcome zero ((at, closes) ∷ xs) = stops at StrayClose
outcome (suc zero) ((at, closes) ∷ xs) = whole ((at, closes) ∷ [])
outcome (suc (suc n)) ((at, closes) ∷ xs) = prepend (at, closes) (outcome (suc n) xs)
outcome zero ((at, word k w) ∷ xs) = whole ((at, word k w) ∷ [])
outcome (suc n) ((at, word k w) ∷ xs) = prepend (at, word k w) (outcome (suc n) xs)
outcome n ((at, wrong f) ∷ xs) = stops at f

-- what comes next in a text from an offset on
abbrev pub next_in : List ℕ → ℕ → Outcome
next_in text at = outcome 0 (lexemes_from text at)

-- it is the same in each text that goes on as this one does
abbrev pub IsSettled : List ℕ → ℕ → Type 0
IsSettled text at = (more : List ℕ) → next_in (text ++ more) at ≡ next_in text at

-- no outcome is that of each text that goes on as this one does
abbrev pub IsOpen : List ℕ → ℕ → Type 0
IsOpen text at = (o : Outcome) → ((more : List ℕ) → next_in (text ++ more) at ≡ o) → ⊥

-- how many bytes a word has, with its quotes, bars or colon
abbrev pub word_size : Kind → List ℕ → ℕ
word_size Text w = length w + 2
word_size Quoted w = length w + 2
word_size Keyword w = length w + 1
word_size _ w = length w

-- the offset right after the last byte of a tree
abbrev pub end_of : Tree → ℕ
end_of (atom at k w) = at + word_size k w
end_of (list at ts end) = end + 1

-- this s-expression is next in a text from an offset on, and what comes after it is read from its end on
pub record IsNext (text : List ℕ) (at : ℕ) (t : Tree) : Type 0 where
  -- its lexemes come first
  pub first : lexemes_from text at ≡ spelled t ++ lexemes_from text (end_of t)
  -- it ends in the text
  pub ends : end_of t ≤ length text

-- this fault is next in a text from an offset on
abbrev pub IsFault : List ℕ → ℕ → Located → Type 0
IsFault text at f = IsBroken (length text) 0 (lexemes_from text at) f
