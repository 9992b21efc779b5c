use Rattle.term_reader.proofs.Putting.{put_starts, next_pair, put_step}
use Rattle.term_reader.proofs.chains.put_links.Goals as goal

pub pairs-init : goal.pairs-init
pairs-init c = put_starts c.args.link c.args.table.now c.args.pairs.now c.new-parts.result.items c.new-parts.ensures.items c.requires

pub put_link-requires : goal.put_link-requires
put_link-requires c = next_pair c.args.link c.args.table.now c.pairs.table c.args.pairs.now c.pairs.parts.items c.pairs.rest.now c.in-Some.after.now c.in-Some.pair.now c.in-Some.ensures.cases.0 c.pairs.invariant

pub pairs-preserved : goal.pairs-preserved
pairs-preserved c =
    put_step c.args.link c.args.table.now c.pairs.table c.args.pairs.now c.pairs.parts.items c.pairs.rest.now c.in-Some.after.now c.in-Some.pair.now c.in-Some.ensures.cases.0 c.pairs.invariant
    c.put_link.new.table c.in-Ok.part c.push.new.self.items c.in-Ok.ensures.keeps c.in-Ok.ensures.ends c.in-Ok-push.ensures.items
