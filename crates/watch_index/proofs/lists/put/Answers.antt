-- The list of the place is changed, or none.
use Rattle.std.proofs.Common.{◌∙◌, ◌++◌, ◌∷◌, [], ap}
use Rattle.clause_literals.proofs.Noting.{list_at}
use Rattle.watch_index.proofs.Changes.{set_at, same_at}
use Rattle.watch_index.proofs.lists.put.Goals as goal

pub returns-in-Ok-clause-ok : goal.returns-in-Ok-clause-ok
returns-in-Ok-clause-ok c = set_at c.args.all.now.items c.args.place c.push.new.self _
    (c.in-Ok.ensures.items ∙ ap (λ xs. xs ++ c.args.number ∷ []) (list_at c.args.all.now.items c.args.place c.index_mut.result.now c.requires c.index_mut.ensures.value))

pub returns-in-Err-clause-err : goal.returns-in-Err-clause-err
returns-in-Err-clause-err c = same_at c.args.all.now.items c.args.place c.index_mut.result.now c.push.new.self c.requires c.index_mut.ensures.value c.in-Err.ensures.items
