-- Where there are few, what is kept says nothing of the map.
use Rattle.std.proofs.Common.{nat_eq, arith}
use Rattle.std.specs.HashMap.{get}
use Rattle.linear_form.proofs.Indexes.{kept_few, kept_map}
use Rattle.linear_form.proofs.entries.index_all.Goals as goal

pub returns-then-entries-gt-FEW-clause-made : goal.returns-then-entries-gt-FEW-clause-made
returns-then-entries-gt-FEW-clause-made c = kept_map (get nat_eq c.args.places.now) c.args.entries.now (omega (arith, c.if-entries-gt-FEW.true)) c.requires.index

pub fill-requires : goal.fill-requires
fill-requires c = record { index = (c.requires.index.index, c.requires.index.tells) }

pub returns-clause-kept : goal.returns-clause-kept
returns-clause-kept c = kept_few c.requires.index.index (get nat_eq c.fill.new.places) c.args.entries.now (omega (arith, c.if-entries-gt-FEW.false)) c.requires.index.tells
