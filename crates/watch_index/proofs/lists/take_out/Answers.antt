-- The list of the place is changed.
use Rattle.std.proofs.Common.{arith, ◌≡◌, ◌∙◌, ◌<◌, List, ℕ, [], length, get_or, set, ap, sym, subst}
use Rattle.std.specs.List.{swap_remove}
use Rattle.std.proofs.lemmas.List.{length-map}
use Rattle.clause_literals.specs.Literals.{lists}
use Rattle.clause_literals.proofs.Noting.{list_at}
use Rattle.watch_index.specs.Indexes.{IsTakenOut}
use Rattle.watch_index.proofs.Changes.{set_at, swap_default, taken_set}
use Rattle.watch_index.proofs.lists.take_out.Goals as goal

pub returns : goal.returns
returns c =
    let all = c.args.all.now.items in
    let is = list_at all c.args.place c.index_mut.result.now c.requires.list c.index_mut.ensures.value in
    let lt : c.args.at < length c.index_mut.result.now.items = subst (λ (xs : List ℕ). c.args.at < length xs) (sym is) c.requires.entry in
    let new : lists (set all c.args.place c.swap_remove.new.self) ≡ set (lists all) c.args.place (swap_remove (get_or (lists all) c.args.place []) c.args.at 0)
    = set_at all c.args.place c.swap_remove.new.self _ (c.swap_remove.ensures.items ∙ swap_default c.index_mut.result.now.items c.args.at c.swap_remove.result lt ∙ ap (λ xs. swap_remove xs c.args.at 0) is) in
    subst (IsTakenOut (lists all) c.args.place c.args.at) (sym new) (taken_set (lists all) c.args.place c.args.at (omega (arith, c.requires.list, length-map all (λ v. v.items))))
