-- Each turn makes one more.
use Rattle.std.proofs.Common.{◌≡◌, ◌++◌, ◌∷◌, [], ap, ◌∙◌, sym, subst}
use Rattle.std.proofs.lemmas.List.{map_push}
use Rattle.clause_literals.specs.Literals.{lists}
use Rattle.watch_index.specs.Indexes.{HasGrown}
use Rattle.watch_index.proofs.Changes.{grown_none, grown_more}
use Rattle.watch_index.proofs.lists.grow.Goals as goal

pub lists-init : goal.lists-init
lists-init c = grown_none _

pub lists-preserved : goal.lists-preserved
lists-preserved c =
    let is : lists c.push.new.self.items ≡ lists c.lists.all.items ++ [] ∷ []
    = ap lists c.in_ok-push.ensures.items ∙ map_push (λ v. v.items) c.lists.all.items c.new.result ∙ ap (λ xs. lists c.lists.all.items ++ xs ∷ []) c.new.ensures.items in
    subst (HasGrown (lists c.args.all.now.items)) (sym is) (grown_more _ _ c.lists.invariant)
