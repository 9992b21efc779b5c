-- What a model file is read as, and the verdict on a script and a model file.
use Rattle.std.specs.Prelude.{◌≡◌, ◌⊎◌, ℕ, List, [], ◌∷◌, length, Option, Some, None, Result, Ok, Err}
use Rattle.std.specs.Prelude.{if◌then◌else◌}
use Rattle.spec_text.specs.Readings.{is_long}
use Rattle.spec_text.specs.Trees.{Trees, offset_of}
use Rattle.spec_text.specs.Answers.{◌>>=◌}
use Rattle.spec_numbers.specs.Bounds.{Overflow}
use Rattle.spec_sorts.specs.Values.{Value, is_true, Interpretation}
use Rattle.spec_sorts.specs.BoundedValues.{bounded_value}
use Rattle.spec_sorts.specs.Signatures.{Signature}
use Rattle.spec_commands.specs.Stack.{Assertion, signature_of}
use Rattle.spec_commands.specs.Checks.{Check, asked, term_limit, IsCurrent, HasNoCheck}
use Rattle.spec_model_files.specs.declared.ModelKind.TheVariants.{NoSuchCheck, NotTrue, ValueWide}
use Rattle.spec_model_files.specs.Faults.{ModelFault, model_fault, ReadModel}
use Rattle.spec_model_files.specs.Definitions.{DefinedSymbol, definitions_read, interpretation_of}
use Rattle.spec_model_files.specs.Texts.{ModelEnding, IsModelText, ending_fault}

-- what was read, unless there is a fault
abbrev pub unless_fault : {A : Type 0} → Option ModelFault → A → ReadModel A
unless_fault None a = Ok a
unless_fault (Some f) a = Err f

-- the definitions that trees are, with the fault of what ends them after all others
unfoldable pub read_to_end : Signature → Option ModelFault → Trees → ReadModel (List DefinedSymbol)
read_to_end g ending ts = definitions_read g [] ts >>= λ ds. unless_fault ending ds

-- what a model file is read as under a signature: definitions, or the first fault
pub record IsModelReading (g : Signature) (text : List ℕ) (answer : ReadModel (List DefinedSymbol)) : Type 0 where
  -- the texts of the definitions
  pub definitions : Trees
  -- what comes after them
  pub ending : ModelEnding
  -- they are those of the file
  pub read : IsModelText text definitions ending
  -- what they are read as, or the first fault of them and their ending
  pub is : answer ≡ read_to_end g (ending_fault (length text) (is_long text) ending) definitions

-- a model file has no fault, and says an interpretation of the symbols of a signature
abbrev pub SaysInterpretation : Signature → List ℕ → Interpretation → Type 0
SaysInterpretation g text i =
    (ds : List DefinedSymbol) × IsModelReading g text (Ok ds) × (i ≡ interpretation_of g ds)

-- the first fault of a model file
abbrev pub IsFirstModelFault : Signature → List ℕ → ModelFault → Type 0
IsFirstModelFault g text f = IsModelReading g text (Err f)

-- the fault of an expression at an offset, by its value or the operation that overflows; none where it is true
abbrev pub untrue_by : ℕ → Result Value Overflow → Option ModelFault
untrue_by at (Ok v) = if is_true v then None else Some (model_fault at NotTrue)
untrue_by at (Err o) = Some (model_fault at ValueWide)

-- the fault of an expression under an interpretation, at its offset in the script
abbrev pub untrue_fault : Interpretation → Assertion → Option ModelFault
untrue_fault i a = untrue_by (offset_of a.text) (bounded_value i [] a.term)

-- the first of two faults
abbrev pub first_of : Option ModelFault → Option ModelFault → Option ModelFault
first_of (Some f) other = Some f
first_of None other = other

-- the fault of the first expression that is not true, or none
unfoldable pub first_untrue : Interpretation → List Assertion → Option ModelFault
first_untrue i [] = None
first_untrue i (a ∷ others) = first_of (untrue_fault i a) (first_untrue i others)

-- what a check's verdict is on a model file by what this is read as: its first fault, else that of the first expression
-- that is not true, assertions first, the oldest of them first, then assumptions
abbrev pub judged : Check → ReadModel (List DefinedSymbol) → Option ModelFault
judged c (Err f) = Some f
judged c (Ok ds) = first_untrue (interpretation_of (signature_of c.stack) ds) (asked c)

-- a model file is judged at a check: the first fault, or none
pub record IsModelJudged (c : Check) (model : List ℕ) (found : Option ModelFault) : Type 0 where
  -- what the file is read as
  pub answer : ReadModel (List DefinedSymbol)
  -- it is that of the file under the check's names
  pub reading : IsModelReading (signature_of c.stack) model answer
  -- the verdict by it
  pub is : found ≡ judged c answer

-- that the script has no such check: at the start
abbrev pub no_such_check : ModelFault
no_such_check = model_fault 0 NoSuchCheck

-- the first fault of a model file for the k-th check of a script, or none; that there is no such check comes before all
-- others
abbrev pub IsModelVerdict : List ℕ → ℕ → List ℕ → Option ModelFault → Type 0
IsModelVerdict script k model found =
    ((c : Check) × IsCurrent term_limit script k c × IsModelJudged c model found)
    ⊎ (HasNoCheck term_limit script k × (found ≡ Some no_such_check))
