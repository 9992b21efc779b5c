-- A dead entry changes nothing, and another has its place in the map.
use Rattle.std.proofs.Common.{nat_eq, sym}
use Rattle.std.specs.HashMap.{get}
use Rattle.linear_form.proofs.Indexes.{filled_dead, filled_next}
use Rattle.linear_form.proofs.entries.fill_entry.Goals as goal

pub returns-then-is_zero-clause-filled : goal.returns-then-is_zero-clause-filled
returns-then-is_zero-clause-filled c = filled_dead (get nat_eq c.args.places.now) c.args.entries.now c.args.at c.args.entry c.requires.low c.requires.here (sym c.if-is_zero.ensures) c.requires.before

pub returns-clause-filled : goal.returns-clause-filled
returns-clause-filled c =
    filled_next c.requires.index.0 (get nat_eq c.args.places.now) (get nat_eq c.insert.new.self) c.args.entries.now c.args.at c.args.entry c.requires.index.1 c.requires.low c.requires.here (sym c.if-is_zero.ensures) c.requires.before
    c.in_ok-insert.ensures.updates.1 c.in_ok-insert.ensures.updates.2
