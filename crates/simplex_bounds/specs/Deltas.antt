-- Numbers with an infinitesimal part as values of an ordered space, and ranges of them.
use Rattle.std.specs.Prelude.{Option, Some, None}
use Rattle.delta_num.specs.declared.delta.Delta.{Delta}
use Rattle.spec_tableaux.specs.Spaces.{Pair}
use Rattle.spec_tableaux.specs.Numbers.{Number}
use Rattle.spec_tableaux.specs.Ranges as ranges
use Rattle.tableau.specs.Numbers.{number_of}
use Rattle.simplex_bounds.specs.declared.ranges.Range.{Range}

-- the pair that a number of the code is
abbrev pub pair_of : Delta → Pair Number
pair_of d = record { base = number_of d.base; tilt = number_of d.tilt }

-- the pair of a number, where there is one
abbrev pub pair_in : Option Delta → Option (Pair Number)
pair_in None = None
pair_in (Some d) = Some (pair_of d)

-- the range that one of the code is
abbrev pub range_of : Range → ranges.Range (Pair Number)
range_of r = record { lower = pair_in r.lower; upper = pair_in r.upper }
