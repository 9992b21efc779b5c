-- The numbers of a tableau: fractions in lowest terms.
use Rattle.ratio128.specs.declared.ratio.Ratio.{Ratio}
use Rattle.ratio128.specs.Meant.{fraction}
use Rattle.spec_tableaux.specs.Numbers.{Number}

-- the value of a `Ratio`, which is in lowest terms
abbrev pub number_of : Ratio → Number
number_of a = record {
  fraction = fraction a;
  reduced = record { positive = a.parts.positive; coprime = a.parts.coprime };
}
