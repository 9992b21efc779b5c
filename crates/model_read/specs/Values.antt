-- What the values of the code mean, as they are written.
use Rattle.std.specs.Prelude.{◌≡◌, ◌<◌, ◌==◌, ◌&&◌, ℕ, Bool, true, false, List, ◌∷◌, if◌then◌else◌, Option}
use Rattle.std.specs.Prelude.{Some, None, Result, Ok, Err, codes}
use Rattle.std.specs.Str.{bytes_eq}
use Rattle.std.specs.Option.{SomeIff}
use Rattle.spec_text.specs.Answers.{◌>>=◌}
use Rattle.spec_text.specs.declared.Kind.{Kind}
use Rattle.spec_text.specs.Bytes.{Name}
use Rattle.spec_text.specs.Shapes.{Word, only_if}
use Rattle.spec_text.specs.Trees.{Tree}
use Rattle.spec_sorts.specs.Numerals.{number_after}
use Rattle.spec_sorts.specs.Terms.{Sort}
use Rattle.spec_sorts.specs.Values.{Value}
use Rattle.spec_sorts.specs.Signatures.{Signature}
use Rattle.spec_models.specs.Values.{numeral}
use Rattle.spec_model_files.specs.declared.ModelKind.TheVariants.{BadShape, WrongSort, NumberWide}
use Rattle.spec_model_files.specs.Faults.{ReadModel, require, found_or}
use Rattle.spec_model_files.specs.Values.{WrittenNumber, Written, written_truth, written_number, written_element}
use Rattle.spec_model_files.specs.Values.{is_named, symbol_read, element_read, value_of_sort, element_bound, is_within}
use Rattle.smt_sexpr.specs.declared.items.Trees.{Trees as Cursor}
use Rattle.smt_sexpr.specs.Items.{tree_meant}
use Rattle.ratio128.specs.declared.ratio.Ratio.{Ratio}
use Rattle.model_read.specs.declared.values.WrittenValue.{WrittenValue}
use Rattle.model_read.specs.declared.values.WrittenValue.TheVariants as code
use Rattle.model_read.specs.declared.errors.ReadError.{ReadError}
use Rattle.model_read.specs.Answers.{StopsRead}
use Rattle.model_read.specs.Numbers.{IsNumber}
use Rattle.model_read.specs.Shapes.{WordPair}

-- the digits of the word of an element: those after `@e`, where they are the numeral of their number
unfoldable pub element_digits : List ℕ → Option (List ℕ)
element_digits (a ∷ b ∷ ds) =
    only_if ((a == 64) && ((b == 101) && bytes_eq ds (numeral (number_after 0 ds)))) ds
element_digits _ = None

-- the number of an element, where it is within the bound
abbrev pub IsIndex : Option ℕ → ℕ → Type 0
IsIndex k n = SomeIff k (n < element_bound) n

-- A number of an element is there, where it is within the bound.
pub record HasIndex (k : Option ℕ) (found : Option ℕ) : Type 0 where
  -- the number
  pub number : ℕ
  -- it is that
  pub is : found ≡ Some number
  -- where it is within the bound
  pub index : IsIndex k number

-- whether a word is that of an element, and of which
abbrev pub IsElementNumber : Option (Option ℕ) → Option ℕ → Type 0
IsElementNumber None found = found ≡ None
IsElementNumber (Some k) found = HasIndex k found

-- A number is written.
pub record IsWrittenNumber (n : Option Ratio) (w : Written) : Type 0 where
  -- the number
  pub number : WrittenNumber
  -- it is written
  pub is : w ≡ written_number number
  -- it is this one
  pub means : IsNumber n number

-- An element is written.
pub record IsWrittenElement (k : Option ℕ) (sort : Cursor) (w : Written) : Type 0 where
  -- its number
  pub number : ℕ
  -- the word for its sort
  pub name : Word
  -- it is written
  pub is : w ≡ written_element number name
  -- its number is this one
  pub index : IsIndex k number
  -- and its sort is named by this text
  pub named : symbol_read (tree_meant sort) ≡ Ok name

-- what is written is this
abbrev pub IsWritten : WrittenValue → Written → Type 0
IsWritten (code.Bool b) w = w ≡ written_truth b
IsWritten (code.Number n) w = IsWrittenNumber n w
IsWritten (code.Element k sort) w = IsWrittenElement k sort w

-- what is written of an element of that number, by the text of its sort's name
unfoldable pub sorted_element : ℕ → Tree → ReadModel Written
sorted_element k s = symbol_read s >>= λ sort. Ok (written_element k sort)

-- what is written in a list at an offset that begins with a reserved word
unfoldable pub reserved_read : ℕ → WordPair → ReadModel Written
reserved_read at p = require (bytes_eq p.word.bytes (codes "as")) at BadShape >>= λ head. element_read p.left p.right

-- the truth value that an atom is
abbrev pub truth_in : Kind → Name → Option Bool
truth_in k n =
    if is_named (codes "true") k n then Some true
    else if is_named (codes "false") k n then Some false
    else None

-- the value of the sort that was written at an offset, within the bounds
unfoldable pub fitted : Signature → Sort → ℕ → Written → ReadModel Value
fitted g s at w =
    found_or (value_of_sort g s w) at WrongSort >>= λ v.
    require (is_within w) at NumberWide >>= λ within.
    Ok v

-- what was made means what is read, or the fault is the same, unless memory ran out
abbrev pub GivesAs : {X Y : Type 0} → (X → Y) → Result X ReadError → ReadModel Y → Type 0
GivesAs view (Ok x) read = read ≡ Ok (view x)
GivesAs view (Err e) read = StopsRead e read
