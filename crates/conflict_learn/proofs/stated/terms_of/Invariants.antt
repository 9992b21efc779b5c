-- The terms of the literals up to here.
use Rattle.std.proofs.Common.{◌≡◌, map, take}
use Rattle.term_core.specs.Tables.{declared_in, literal_at, Extends}
use Rattle.conflict_learn.specs.Analyses.{StateAll}
use Rattle.conflict_learn.proofs.stated.terms_of.Given as goal

abbrev pub invariant-loop-l : goal.invariant-loop-l
invariant-loop-l l = record {
  grown : Extends l.fn.table l.table;
  declared : declared_in l.table ≡ declared_in l.fn.table;
  states : StateAll l.table (map (literal_at l.fn.table) (take l.l-index l.clause)) l.terms.items;
}
