-- Lines and columns, and the numbers and names of faults.
use Rattle.std.specs.Prelude.{◌≡◌, ℕ, ◌+◌, ◌≤◌, List, [], ◌∷◌, length, take, count_by, codes, ◌==◌, if◌then◌else◌}
use Rattle.spec_text.specs.declared.Place.{Place}
use Rattle.spec_text.specs.declared.Fault.{Fault}
use Rattle.spec_text.specs.declared.Fault.TheVariants.{BadChar, UnclosedString, UnclosedQuote, UnclosedList, StrayClose}
use Rattle.spec_text.specs.declared.Fault.TheVariants.{TooLong, UnknownCommand, BadShape, UnknownSymbol}
use Rattle.spec_text.specs.declared.Fault.TheVariants.{UnknownSort, Twice, Reserved, WrongCount, WrongSort, NotLinear}
use Rattle.spec_text.specs.declared.Fault.TheVariants.{ZeroDivisor, NumberWide, PopTooFar, WrongMode, NotEnabled}
use Rattle.spec_text.specs.declared.Fault.TheVariants.{UnknownLogic, NotLiteral, Full, ValueWide}

-- 1 plus the number of bytes 10 before the offset
abbrev pub line_of : List ℕ → ℕ → ℕ
line_of text offset = 1 + count_by (λ b. b == 10) (take offset text)

-- how many bytes come since the last byte 10, the first number of them before the list
abbrev pub since_break : ℕ → List ℕ → ℕ
since_break n [] = n
since_break n (b ∷ bs) = if b == 10 then since_break 0 bs else since_break (n + 1) bs

-- 1 plus the number of bytes since the last byte 10 before the offset, or since the start
abbrev pub column_of : List ℕ → ℕ → ℕ
column_of text offset = 1 + since_break 0 (take offset text)

-- the place of a byte of the text, or of its end
pub record IsPlaceOf (text : List ℕ) (p : Place) : Type 0 where
  pub within : p.offset ≤ length text
  pub line : p.line ≡ line_of text p.offset
  pub col : p.col ≡ column_of text p.offset

-- E1 to E25 without E6
abbrev pub number_of : Fault → ℕ
number_of BadChar = 1
number_of UnclosedString = 2
number_of UnclosedQuote = 3
number_of UnclosedList = 4
number_of StrayClose = 5
number_of TooLong = 7
number_of UnknownCommand = 8
number_of BadShape = 9
number_of UnknownSymbol = 10
number_of UnknownSort = 11
number_of Twice = 12
number_of Reserved = 13
number_of WrongCount = 14
number_of WrongSort = 15
number_of NotLinear = 16
number_of ZeroDivisor = 17
number_of NumberWide = 18
number_of PopTooFar = 19
number_of WrongMode = 20
number_of NotEnabled = 21
number_of UnknownLogic = 22
number_of NotLiteral = 23
number_of Full = 24
number_of ValueWide = 25

-- the name that is printed
abbrev pub name_of : Fault → List ℕ
name_of BadChar = codes "BadChar"
name_of UnclosedString = codes "UnclosedString"
name_of UnclosedQuote = codes "UnclosedQuote"
name_of UnclosedList = codes "UnclosedList"
name_of StrayClose = codes "StrayClose"
name_of TooLong = codes "TooLong"
name_of UnknownCommand = codes "UnknownCommand"
name_of BadShape = codes "BadShape"
name_of UnknownSymbol = codes "UnknownSymbol"
name_of UnknownSort = codes "UnknownSort"
name_of Twice = codes "Twice"
name_of Reserved = codes "Reserved"
name_of WrongCount = codes "WrongCount"
name_of WrongSort = codes "WrongSort"
name_of NotLinear = codes "NotLinear"
name_of ZeroDivisor = codes "ZeroDivisor"
name_of NumberWide = codes "NumberWide"
name_of PopTooFar = codes "PopTooFar"
name_of WrongMode = codes "WrongMode"
name_of NotEnabled = codes "NotEnabled"
name_of UnknownLogic = codes "UnknownLogic"
name_of NotLiteral = codes "NotLiteral"
name_of Full = codes "Full"
name_of ValueWide = codes "ValueWide"
