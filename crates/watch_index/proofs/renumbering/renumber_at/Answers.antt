-- The list of the place is changed.
use Rattle.std.proofs.Common.{◌<◌, ◌∙◌, ℕ, length, sym, ap, subst}
use Rattle.std.specs.Prelude.{All, List}
use Rattle.clause_literals.proofs.Noting.{list_at}
use Rattle.watch_index.specs.Indexes.{renumbered}
use Rattle.watch_index.proofs.Changes.{set_at}
use Rattle.watch_index.proofs.renumbering.renumber_at.Goals as goal

pub renumber-requires : goal.renumber-requires
renumber-requires c = subst (λ (xs : List ℕ). All (λ n. n < length c.args.kept.now) xs) (sym (list_at c.args.all.now.items c.args.place c.index_mut.result.now c.requires.there c.index_mut.ensures.value)) c.requires.below

pub returns : goal.returns
returns c = set_at c.args.all.now.items c.args.place c.renumber.new.list _
    (c.renumber.ensures ∙ ap (renumbered c.args.kept.now) (list_at c.args.all.now.items c.args.place c.index_mut.result.now c.requires.there c.index_mut.ensures.value))
