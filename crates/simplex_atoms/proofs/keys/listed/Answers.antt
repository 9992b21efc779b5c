-- One pair after the other comes.
use Rattle.simplex_atoms.proofs.Turning.{listed_none, listed_step}
use Rattle.simplex_atoms.proofs.keys.listed.Goals as goal

pub entries-init : goal.entries-init
entries-init c = listed_none c.args.opposite c.args.entries.now c.new-pairs.result.items c.new-pairs.ensures.items

pub entries-preserved : goal.entries-preserved
entries-preserved c =
    listed_step c.args.opposite c.args.entries.now c.entries.at c.index-entries-at.result c.signed.result c.entries.pairs.items c.push.new.self.items c.entries.invariant c.entries-test.true c.index-entries-at.is
    c.signed.ensures c.in_ok-push.ensures.items
