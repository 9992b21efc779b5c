-- What the values of the code represent in definitions.
use Rattle.std.specs.Prelude.{Result, Ok, Err}
use Rattle.spec_numbers.specs.Bounds.{Overflow}
use Rattle.ratio128.specs.declared.wide.Wide.{Wide}
use Rattle.ratio128.specs.Meant.{fraction, overflow}
use Rattle.spec_tableaux.specs.Deltas.{Delta}
use Rattle.delta_num.specs.declared.delta.Delta.{Delta as Number}

-- the number that a `Delta` of the code is
abbrev pub delta : Number → Delta
delta a = record { base = fraction a.base; tilt = fraction a.tilt }

-- the result of an operation, or its overflow
abbrev pub delta_outcome : Result Number Wide → Result Delta Overflow
delta_outcome (Ok a) = Ok (delta a)
delta_outcome (Err w) = Err (overflow w)
