-- The first entry that is the variable's and not dead is found.
use Rattle.linear_form.proofs.Indexes.{live_found, lacks_next, lacks_all}
use Rattle.linear_form.proofs.entries.live_place.Goals as goal

pub returns-then-is_live_of : goal.returns-then-is_live_of
returns-then-is_live_of c = live_found c.args.id.0 c.args.entries.now c.entries.at c.index-entries-at.result c.entries-test.true c.index-entries-at.is c.if-is_live_of.ensures.0 c.if-is_live_of.ensures.1

pub entries-preserved : goal.entries-preserved
entries-preserved c = record { lacks = lacks_next c.args.id.0 c.args.entries.now c.entries.at c.index-entries-at.result c.entries-test.true c.index-entries-at.is c.entries.invariant.lacks c.if-is_live_of.ensures }

pub returns : goal.returns
returns c = lacks_all c.args.id.0 c.args.entries.now c.entries.at c.entries-test.false c.entries.invariant.lacks
