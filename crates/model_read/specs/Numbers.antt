-- How the number of a text is read without recursion: what is still to be done with the innermost one.
use Rattle.std.specs.Prelude.{◌≡◌, ◌<◌, ◌&&◌, ℕ, Bool, true, false, not, List, [], ◌∷◌, Option, Some, None, Result}
use Rattle.std.specs.Prelude.{Ok, Err}
use Rattle.spec_text.specs.Answers.{◌>>=◌}
use Rattle.spec_text.specs.Trees.{Tree}
use Rattle.spec_model_files.specs.declared.ModelKind.TheVariants.{BadShape}
use Rattle.spec_model_files.specs.Faults.{ReadModel, require}
use Rattle.spec_model_files.specs.Values.{WrittenNumber, is_zero, negation, quotient, divisor_read, number_read}
use Rattle.smt_sexpr.specs.Items.{tree_meant, size_of}
use Rattle.ratio128.specs.declared.ratio.Ratio.{Ratio}
use Rattle.ratio128.specs.Meant.{fraction}
use Rattle.model_read.specs.declared.errors.LocatedFault.{LocatedFault}
use Rattle.model_read.specs.declared.errors.ReadError.{ReadError}
use Rattle.model_read.specs.declared.numbers.Operation.{Operation}
use Rattle.model_read.specs.declared.numbers.Operation.TheVariants as operations
use Rattle.model_read.specs.declared.numbers.OpenedNumber.{OpenedNumber}
use Rattle.model_read.specs.declared.numbers.OpenedNumber.TheVariants as openings
use Rattle.model_read.specs.Answers.{located_view, IsReadAs, StopsRead}

-- the number that was written, where it is within the bounds
abbrev pub IsNumber : Option Ratio → WrittenNumber → Type 0
IsNumber (Some q) x = (x.is_within ≡ true) × (fraction q ≡ x.fraction)
IsNumber None x = x.is_within ≡ false

-- the number is within the bounds, and zero
abbrev pub is_zero_within : WrittenNumber → Bool
is_zero_within x = x.is_within && is_zero x.fraction

-- the quotient of a number by that of a text, in a text at an offset
unfoldable pub quotient_by : ℕ → Tree → WrittenNumber → ReadModel WrittenNumber
quotient_by at d x =
    divisor_read d >>= λ y.
    require (not (is_zero_within y)) at BadShape >>= λ nonzero.
    Ok (quotient x y)

-- what an operation makes of a number
abbrev pub made_by : Operation → ReadModel WrittenNumber → ReadModel WrittenNumber
made_by operations.Negate read = read >>= λ x. Ok (negation x)
made_by (operations.Divide at d) read = read >>= quotient_by at (tree_meant d)

-- what operations make of a number: the last comes first
abbrev pub made_by_all : List Operation → ReadModel WrittenNumber → ReadModel WrittenNumber
made_by_all [] read = read
made_by_all (p ∷ ps) read = made_by p (made_by_all ps read)

-- the number of a text is this one, or what the operation makes of that of a shorter text; or it has this fault
abbrev pub OpensAs : Tree → ℕ → Result OpenedNumber LocatedFault → Type 0
OpensAs t size (Ok (openings.Number n)) = IsReadAs IsNumber n (number_read t)
OpensAs t size (Ok (openings.Made p first)) = (number_read t ≡ made_by p (number_read (tree_meant first)))
    × (size_of first < size)
OpensAs t size (Err f) = number_read t ≡ Err (located_view f)

-- a number is what operations that are left make of this one
pub record IsLeft (whole : ReadModel WrittenNumber) (left : List Operation) (n : Option Ratio) : Type 0 where
  -- the number
  pub number : WrittenNumber
  -- it is that
  pub means : IsNumber n number
  -- they make the whole of it
  pub same : made_by_all left (Ok number) ≡ whole

-- the innermost number was read, with what is to be done with it; or the whole has its fault
abbrev pub Descends : ReadModel WrittenNumber → List Operation → Result (Option Ratio) ReadError → Type 0
Descends whole left (Ok n) = IsLeft whole left n
Descends whole left (Err e) = StopsRead e whole
