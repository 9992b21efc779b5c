-- One entry after the other.
use Rattle.std.proofs.Common.{ap, ◌∙◌, arith}
use Rattle.std.proofs.lemmas.List.{take_all}
use Rattle.watch_index.specs.Indexes.{renumbered}
use Rattle.watch_index.proofs.Renumbered.{renumbered_none, renumbered_on}
use Rattle.watch_index.proofs.renumbering.renumber.Goals as goal

pub entries-init : goal.entries-init
entries-init c = renumbered_none _ _

pub entries-preserved : goal.entries-preserved
entries-preserved c =
    renumbered_on c.args.kept.now c.args.list.now.items c.entries.at c.entries.to c.entries.list.items c.renumber_one-to.new.list.items c.renumber_one-to.result (omega (arith, c.entries-test.true, c.len-at-end.ensures, c.args.list.now.ok.0)) c.entries.invariant c.renumber_one-to.ensures

pub returns : goal.returns
returns c =
    let old = c.args.list.now.items in
    let i = c.entries.invariant in
    c.truncate.ensures.items ∙ i.first ∙ ap (renumbered c.args.kept.now) (take_all c.entries.at old (omega (arith, c.entries-test.false, c.len-at-end.ensures, c.args.list.now.ok.0)))
