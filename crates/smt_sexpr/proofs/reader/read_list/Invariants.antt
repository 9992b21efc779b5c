-- The list is open, and what was read of it is in its context.
use Rattle.std.proofs.Common.{◌-◌, ◌≤◌, ◌∷◌, [], ◌++◌, length}
use Rattle.spec_text.specs.Places.{IsPlaceOf}
use Rattle.spec_text.specs.Lexemes.{opens, lexemes_from}
use Rattle.smt_sexpr.proofs.Reading.{Reading}
use Rattle.smt_sexpr.proofs.reader.read_list.Given as goal

abbrev pub invariant-tokens : goal.invariant-tokens
invariant-tokens l = record {
  reading : Reading l.text l.open_lists ((l.start, opens) ∷ lexemes_from l.text l.fn.after.offset) l.items.items (l.outer.items ++ l.innermost ∷ []) l.place.offset;
  place : IsPlaceOf l.text l.place;
  count : length l.items.items ≤ l.place.offset;
  later : l.fn.after.offset ≤ l.place.offset;
}

abbrev pub decreases-tokens : goal.decreases-tokens
decreases-tokens l = length l.text - l.place.offset
