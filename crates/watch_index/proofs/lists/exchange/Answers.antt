-- The list of the place is exchanged.
use Rattle.std.proofs.Common.{◌∙◌, ap}
use Rattle.clause_literals.proofs.Noting.{list_at}
use Rattle.watch_index.proofs.Changes.{set_at}
use Rattle.watch_index.proofs.lists.exchange.Goals as goal

pub returns-clause-taken : goal.returns-clause-taken
returns-clause-taken c = ap (λ v. v.items) c.replace.ensures.value ∙ list_at c.args.all.now.items c.args.place c.index_mut.result.now c.requires c.index_mut.ensures.value

pub returns-clause-put : goal.returns-clause-put
returns-clause-put c = set_at c.args.all.now.items c.args.place c.replace.new.dest c.args.list.items (ap (λ v. v.items) c.replace.ensures.after)
