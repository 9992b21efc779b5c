-- What the moves of the code say, and the tests that they make.
use Rattle.std.specs.Prelude.{Bool, not, ◌||◌}
use Rattle.spec_tableaux.specs.Spaces.{Pair}
use Rattle.spec_tableaux.specs.Ranges.{Range, below, above}
use Rattle.spec_tableaux.specs.LeastVariable.{done, crossed, stuck, exchange, Move as RuleMove}
use Rattle.spec_tableaux.specs.Numbers.{Number}
use Rattle.spec_tableaux.specs.Points.{deltas}
use Rattle.simplex_check.specs.declared.rule.Move.{Move}
use Rattle.simplex_check.specs.declared.rule.Move.TheVariants.{Done, Crossed, Conflict, Exchange}

-- what the least-variable rule says by a move
abbrev pub rule_move : Move → RuleMove
rule_move Done = done
rule_move (Crossed y) = crossed y
rule_move (Conflict b) = stuck b
rule_move (Exchange b x) = exchange b x

-- the value x keeps the bounds of a range
abbrev pub keeps : Range (Pair Number) → Pair Number → Bool
keeps range x = not (below deltas x range.lower || above deltas x range.upper)
