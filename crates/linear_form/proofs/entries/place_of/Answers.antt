-- Where there are many, the map is the index.
use Rattle.std.proofs.Common.{nat_eq, arith, sym}
use Rattle.std.specs.HashMap.{get}
use Rattle.linear_form.proofs.Indexes.{kept_map, none_lacks}
use Rattle.linear_form.proofs.entries.place_of.Goals as goal

pub returns-in-Some : goal.returns-in-Some
returns-in-Some c = (kept_map (get nat_eq c.args.places.now) c.args.entries.now (omega (arith, c.if-entries-le-FEW.false)) c.requires.index).tells c.args.id.0 _ (sym c.in-Some.ensures.value)

pub returns-in-None : goal.returns-in-None
returns-in-None c = none_lacks (get nat_eq c.args.places.now) c.args.entries.now c.args.id.0 (kept_map (get nat_eq c.args.places.now) c.args.entries.now (omega (arith, c.if-entries-le-FEW.false)) c.requires.index) (sym c.in-None.ensures.value)
