-- The place up to here is one of the text, and not after the end.
use Rattle.std.proofs.Common.{◌-◌, ◌≤◌}
use Rattle.spec_text.specs.Places.{IsPlaceOf}
use Rattle.smt_lexer.proofs.places.place_after.Given as goal

abbrev pub invariant-loop-place : goal.invariant-loop-place
invariant-loop-place l = record { place : IsPlaceOf l.bytes l.place; within : l.place.offset ≤ l.end }

abbrev pub decreases-loop-place : goal.decreases-loop-place
decreases-loop-place l = l.end - l.place.offset
