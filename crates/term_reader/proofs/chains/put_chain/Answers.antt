use Rattle.std.proofs.Common.{sym, subst}
use Rattle.spec_sorts.specs.Terms.{Truth}
use Rattle.term_reader.specs.Building.{AreOfSort}
use Rattle.term_reader.proofs.Putting.{parts_are_truths}
use Rattle.term_reader.proofs.chains.put_chain.Goals as goal

pub conjoin-requires-clause-truths : goal.conjoin-requires-clause-truths
conjoin-requires-clause-truths c =
    let ends = c.in-Ok.ensures.ends in
    subst (AreOfSort c.put_links.new.table Truth) (sym c.deref.ensures.value) (parts_are_truths c.args.link c.args.table.now c.put_links.new.table c.args.pairs.now c.in-Ok.parts.items ends.0 ends.1)
