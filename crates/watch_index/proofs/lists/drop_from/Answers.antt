-- The list of the place is changed.
use Rattle.std.proofs.Common.{◌∙◌, ap}
use Rattle.clause_literals.proofs.Noting.{list_at}
use Rattle.watch_index.specs.Indexes.{numbers_below}
use Rattle.watch_index.proofs.Changes.{set_at}
use Rattle.watch_index.proofs.lists.drop_from.Goals as goal

pub returns : goal.returns
returns c = set_at c.args.all.now.items c.args.place c.keep_below.new.list _
    (c.keep_below.ensures ∙ ap (numbers_below c.args.number) (list_at c.args.all.now.items c.args.place c.index_mut.result.now c.requires c.index_mut.ensures.value))
