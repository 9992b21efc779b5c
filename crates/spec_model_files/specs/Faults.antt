-- Why a model file says no interpretation, or none that makes a check's expressions true, with offsets.
use Rattle.std.specs.Prelude.{ℕ, Bool, true, false, List, Option, Some, None, Result, Ok, Err, codes}
use Rattle.std.specs.Prelude.{if◌then◌else◌}
use Rattle.spec_text.specs.Places.{name_of}
use Rattle.spec_text.specs.Faults.{Located}
use Rattle.spec_model_files.specs.declared.ModelKind.{ModelKind}
use Rattle.spec_model_files.specs.declared.ModelKind.TheVariants.{Lexical, BadShape, UnknownSymbol, Twice, WrongSort}
use Rattle.spec_model_files.specs.declared.ModelKind.TheVariants.{NoSuchCheck, NumberWide, NotTrue, ValueWide}

-- the name that is printed
abbrev pub kind_name : ModelKind → List ℕ
kind_name (Lexical f) = name_of f
kind_name BadShape = codes "BadShape"
kind_name UnknownSymbol = codes "UnknownSymbol"
kind_name Twice = codes "Twice"
kind_name WrongSort = codes "WrongSort"
kind_name NoSuchCheck = codes "NoSuchCheck"
kind_name NumberWide = codes "NumberWide"
kind_name NotTrue = codes "NotTrue"
kind_name ValueWide = codes "ValueWide"

-- the number, from 1 to 9
abbrev pub kind_number : ModelKind → ℕ
kind_number (Lexical f) = 1
kind_number BadShape = 2
kind_number UnknownSymbol = 3
kind_number Twice = 4
kind_number WrongSort = 5
kind_number NoSuchCheck = 6
kind_number NumberWide = 7
kind_number NotTrue = 8
kind_number ValueWide = 9

-- whether such a fault is at an offset of the script; all others are at one of the model file
abbrev pub is_of_script : ModelKind → Bool
is_of_script NotTrue = true
is_of_script ValueWide = true
is_of_script k = false

-- the text that such a fault is in, of a script and a model file
abbrev pub faulty_text : List ℕ → List ℕ → ModelKind → List ℕ
faulty_text script model k = if is_of_script k then script else model

-- What is wrong, with the offset that it is at.
pub record ModelFault : Type 0 where
  -- the offset, in the model file or in the script
  pub offset : ℕ
  -- what is wrong
  pub kind : ModelKind

-- a fault by its offset and its kind
abbrev pub model_fault : ℕ → ModelKind → ModelFault
model_fault at k = record { offset = at; kind = k }

-- a fault after which the file cannot be read on
abbrev pub text_fault : Located → ModelFault
text_fault f = model_fault f.offset (Lexical f.fault)

-- what was read of a model file, or the first fault
abbrev pub ReadModel : Type 0 → Type 0
ReadModel A = Result A ModelFault

-- a fault at an offset
abbrev pub wrong : {A : Type 0} → ℕ → ModelKind → ReadModel A
wrong at k = Err (model_fault at k)

-- a test, or the fault where it fails
unfoldable pub require : Bool → ℕ → ModelKind → ReadModel (Unit {0})
require true at k = Ok tt
require false at k = wrong at k

-- what there is, or the fault where there is nothing
unfoldable pub found_or : {A : Type 0} → Option A → ℕ → ModelKind → ReadModel A
found_or (Some a) at k = Ok a
found_or None at k = wrong at k
