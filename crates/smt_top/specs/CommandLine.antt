-- The arguments that a program is started with.
use Rattle.std.specs.Prelude.{◌≡◌, ℕ, ◌<◌, ◌≤◌, ◌⊎◌, List, [], length, take, map, slice_get, ⊤, IfSome}
use Rattle.std.specs.Prelude.{Option, Some, None, Result, Ok, Err, IsUtf8, Vec, String, string_bytes}
use Rattle.std.specs.declared.alloc.Global.{Global}
use Rattle.std.specs.declared.env.FillError.{FillError}
use Rattle.std.specs.declared.env.FillError.TheVariants.{NotPresent, TooLong}
use Rattle.smt_top.specs.declared.command_line.UnreadArguments.{UnreadArguments}
use Rattle.smt_top.specs.declared.command_line.UnreadArguments.TheVariants.{NotUnicode, Memory}

-- what was copied of the argument at this place: all of it, to the start of the buffer; or there is none; or the buffer
-- is shorter
abbrev pub FillsOf : List (List ℕ) → ℕ → Result ℕ FillError → List ℕ → Type 0
FillsOf arguments place (Ok n) buf = slice_get arguments place ≡ Some (take n buf)
FillsOf arguments place (Err NotPresent) buf = length arguments ≤ place
FillsOf arguments place (Err TooLong) buf = (argument : List ℕ)
    × (slice_get arguments place ≡ Some argument) × (length buf < length argument)

-- the same, where the arguments are known
abbrev pub Fills : Option (List (List ℕ)) → ℕ → Result ℕ FillError → List ℕ → Type 0
Fills known place r buf = IfSome known (λ arguments. FillsOf arguments place r buf)

-- the bytes of the argument at this place, or that there is none
abbrev pub GivesBytes : Option (List (List ℕ)) → ℕ → Option (Vec ℕ Global) → Type 0
GivesBytes known place None = IfSome known (λ arguments. length arguments ≤ place)
GivesBytes known place (Some bytes) = IfSome known (λ arguments. slice_get arguments place ≡ Some bytes.items)

-- some argument is not UTF-8
abbrev pub HasNoText : List (List ℕ) → Type 0
HasNoText arguments = (place : ℕ) × (argument : List ℕ)
    × (slice_get arguments place ≡ Some argument) × (IsUtf8 argument → ⊥)

-- the argument at this place, or that there is none, or that it is not UTF-8, unless memory ran out
abbrev pub GivesArgument : Option (List (List ℕ)) → ℕ → Result (Option (String Global)) UnreadArguments → Type 0
GivesArgument known place (Ok None) = IfSome known (λ arguments. length arguments ≤ place)
GivesArgument known place (Ok (Some argument)) =
    IfSome known (λ arguments. slice_get arguments place ≡ Some (string_bytes argument))
GivesArgument known place (Err NotUnicode) = IfSome known HasNoText
GivesArgument known place (Err Memory) = ⊤

-- all arguments in order, or that one is not UTF-8, unless memory ran out
abbrev pub GivesArguments : Option (List (List ℕ)) → Result (Vec (String Global) Global) UnreadArguments → Type 0
GivesArguments known (Ok v) = IfSome known (λ arguments. map string_bytes v.items ≡ arguments)
GivesArguments known (Err NotUnicode) = IfSome known HasNoText
GivesArguments known (Err Memory) = ⊤

-- what a run takes of the arguments, where they are known: all in order, or none where one is not UTF-8
abbrev pub AreTaken : Option (List (List ℕ)) → List (List ℕ) → Type 0
AreTaken known taken = IfSome known (λ arguments. (taken ≡ arguments) ⊎ ((taken ≡ []) × HasNoText arguments))
