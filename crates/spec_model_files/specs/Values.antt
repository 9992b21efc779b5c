-- The values of a model file: each by its form, its sort, and the bounds on its parts. Source: SMT-LIB 2.6, sections
-- 3.6 and 4.2.6; which forms are taken, the elements of a declared sort, the bounds and the order of faults are own.
use Rattle.std.specs.Prelude.{ℕ, ◌^◌, ◌==◌, Bool, true, false, not, ◌&&◌, nat_lt, unsigned_abs, List, Option, Some}
use Rattle.std.specs.Prelude.{None, Ok, Err, codes, if◌then◌else◌}
use Rattle.std.specs.Str.{bytes_eq}
use Rattle.spec_numbers.specs.Fractions.{Fraction, opposite, divide}
use Rattle.spec_numbers.specs.Bounds.{fits}
use Rattle.spec_text.specs.declared.Kind.{Kind}
use Rattle.spec_text.specs.declared.Kind.TheVariants.{Numeral, Decimal, Reserved}
use Rattle.spec_text.specs.Bytes.{Name}
use Rattle.spec_text.specs.Shapes.{Word, is_symbol, only_if}
use Rattle.spec_text.specs.Trees.{Tree, atom, list, none, more, offset_of}
use Rattle.spec_text.specs.Answers.{Answer, ◌>>=◌}
use Rattle.spec_sorts.specs.Terms.{Sort, Truth, Number, Declared, same_sort}
use Rattle.spec_sorts.specs.Numerals.{literal_value, is_wide}
use Rattle.spec_sorts.specs.Values.{Value, truth, number, element}
use Rattle.spec_sorts.specs.Signatures.{Signature}
use Rattle.spec_reading.specs.Sorts.{sort_named}
use Rattle.spec_models.specs.Meaning.{element_number}
use Rattle.spec_model_files.specs.declared.ModelKind.TheVariants.{BadShape, WrongSort, NumberWide}
use Rattle.spec_model_files.specs.Faults.{ReadModel, wrong, require, found_or}

-- whether an atom is this symbol
abbrev pub is_named : Name → Kind → Name → Bool
is_named n k m = is_symbol k && bytes_eq m n

-- a symbol
abbrev pub symbol_read : Tree → ReadModel Word
symbol_read (atom at k n) = if is_symbol k then Ok (record { at = at; kind = k; bytes = n }) else wrong at BadShape
symbol_read (list at ts end) = wrong at BadShape

-- the sort of a name is this one
abbrev pub is_this_sort : Sort → Answer Sort → Bool
is_this_sort s (Ok t) = same_sort s t
is_this_sort s (Err f) = false

-- whether a word names the sort, by its own name or by a defined one
abbrev pub names_sort : Signature → Sort → Word → Bool
names_sort g s w = is_this_sort s (sort_named g w.at w.bytes)

-- a text that has to name the sort
unfoldable pub sort_read : Signature → Sort → Tree → ReadModel (Unit {0})
sort_read g s t = symbol_read t >>= λ w. require (names_sort g s w) w.at WrongSort

-- A number as it is written.
pub record WrittenNumber : Type 0 where
  -- the number
  pub fraction : Fraction
  -- whether it is within the bounds: its parts, those of each number in it, and each literal
  pub is_within : Bool

-- the number is zero
abbrev pub is_zero : Fraction → Bool
is_zero q = unsigned_abs q.num == 0

-- a numeral or a decimal by its digits
abbrev pub literal : List ℕ → WrittenNumber
literal n = record { fraction = literal_value n; is_within = not (is_wide n) }

-- the negation of a number, whose parts are as large
abbrev pub negation : WrittenNumber → WrittenNumber
negation x = record { fraction = opposite x.fraction; is_within = x.is_within }

-- the quotient of two numbers, the second not zero
abbrev pub quotient : WrittenNumber → WrittenNumber → WrittenNumber
quotient x y = record {
  fraction = divide x.fraction y.fraction;
  is_within = (x.is_within && y.is_within) && fits (divide x.fraction y.fraction);
}

-- an atom that has to be a literal
abbrev pub literal_atom : ℕ → Kind → List ℕ → ReadModel WrittenNumber
literal_atom at Numeral n = Ok (literal n)
literal_atom at Decimal n = Ok (literal n)
literal_atom at k n = wrong at BadShape

-- a text that has to be a literal
abbrev pub literal_read : Tree → ReadModel WrittenNumber
literal_read (atom at k n) = literal_atom at k n
literal_read (list at ts end) = wrong at BadShape

-- a divisor: a literal, or the negation of one
unfoldable pub divisor_read : Tree → ReadModel WrittenNumber
divisor_read (list at (more (atom a k m) (more t none)) end) =
    require (is_named (codes "-") k m) at BadShape >>= λ minus.
    literal_read t >>= λ x.
    Ok (negation x)
divisor_read t = literal_read t

-- a number: a literal, the negation of a number, or the quotient of a number by a divisor that is not zero; one out of
-- the bounds is not
unfoldable pub number_read : Tree → ReadModel WrittenNumber
number_read (list at (more (atom a k m) (more t none)) end) =
    require (is_named (codes "-") k m) at BadShape >>= λ minus.
    number_read t >>= λ x.
    Ok (negation x)
number_read (list at (more (atom a k m) (more t (more d none))) end) =
    require (is_named (codes "/") k m) at BadShape >>= λ over.
    number_read t >>= λ x.
    divisor_read d >>= λ y.
    require (not (y.is_within && is_zero y.fraction)) at BadShape >>= λ nonzero.
    Ok (quotient x y)
number_read t = literal_read t

-- A value as it is written.
pub data Written : Type 0 where
  -- a truth value
  written_truth : Bool → Written
  -- a number
  written_number : WrittenNumber → Written
  -- an element by its number, with the word for its sort
  written_element : ℕ → Word → Written

-- an atom that has to be `true`, `false` or a literal
abbrev pub written_atom : ℕ → Kind → List ℕ → ReadModel Written
written_atom at Numeral n = Ok (written_number (literal n))
written_atom at Decimal n = Ok (written_number (literal n))
written_atom at k n =
    if is_named (codes "true") k n then Ok (written_truth true)
    else if is_named (codes "false") k n then Ok (written_truth false)
    else wrong at BadShape

-- an element by the texts of its word and of its sort
unfoldable pub element_read : Tree → Tree → ReadModel Written
element_read e s =
    symbol_read e >>= λ w.
    found_or (element_number w.bytes) w.at BadShape >>= λ k.
    symbol_read s >>= λ sort.
    Ok (written_element k sort)

-- the form of a value
unfoldable pub written_in : Tree → ReadModel Written
written_in (atom at k n) = written_atom at k n
written_in (list at (more (atom a Reserved m) (more e (more s none))) end) =
    require (bytes_eq m (codes "as")) at BadShape >>= λ head.
    element_read e s
written_in t = number_read t >>= λ x. Ok (written_number x)

-- the value of the sort that was written, if it is one of that sort
abbrev pub value_of_sort : Signature → Sort → Written → Option Value
value_of_sort g Truth (written_truth b) = Some (truth b)
value_of_sort g Number (written_number x) = Some (number x.fraction)
value_of_sort g (Declared n) (written_element k w) = only_if (names_sort g (Declared n) w) (element n k)
value_of_sort g s w = None

-- the bound on the numbers of elements
abbrev pub element_bound : ℕ
element_bound = 2 ^ 64

-- what was written is within the bounds
abbrev pub is_within : Written → Bool
is_within (written_truth b) = true
is_within (written_number x) = x.is_within
is_within (written_element k w) = nat_lt k element_bound

-- a value of a sort: first its form, then its sort, then its bounds
unfoldable pub value_read : Signature → Sort → Tree → ReadModel Value
value_read g s t =
    written_in t >>= λ w.
    found_or (value_of_sort g s w) (offset_of t) WrongSort >>= λ v.
    require (is_within w) (offset_of t) NumberWide >>= λ within.
    Ok v
