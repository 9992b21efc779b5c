-- Where the orders of an equality of numbers leave the bound on numbers.
use Rattle.spec_numbers.specs.Bounds.{Overflow}
use Rattle.spec_causes.specs.Checks.{IsOverflowAmong}
use Rattle.spec_derivations.specs.Problems.{Problem}
use Rattle.spec_derivations.specs.Orders.{whole_terms}
use Rattle.ratio128.specs.Meant.{overflow}
use Rattle.clausify.specs.declared.stop.ClauseStop.{ClauseStop}
use Rattle.clausify.specs.declared.stop.ClauseStop.TheVariants as stops

-- such an equality among the terms of which a search of a problem speaks
abbrev pub IsOrderOverflow : Problem → Overflow → Type 0
IsOrderOverflow p o = IsOverflowAmong (whole_terms p) o

-- a number that leaves the bound has a property; out of memory says nothing
abbrev pub OnClauseOverflow : (Overflow → Type 0) → ClauseStop → Type 0
OnClauseOverflow P (stops.Wide w) = P (overflow w)
OnClauseOverflow P stops.Memory = Unit {0}
