-- Empty lists come last.
use Rattle.std.proofs.Common.{◌≡◌, ◌++◌, ◌∷◌, [], ap, ◌∙◌}
use Rattle.std.proofs.lemmas.List.{map_push}
use Rattle.congruence_closure.specs.Tables.{lists}
use Rattle.congruence_closure.proofs.Places.{kept_push}
use Rattle.congruence_closure.proofs.users.grow_lists.Goals as goal

pub lists-preserved : goal.lists-preserved
lists-preserved c =
    let is : lists c.push.new.self.items ≡ lists c.lists.all.items ++ [] ∷ [] = ap lists c.in_ok-push.ensures.items ∙ map_push (λ v. v.items) c.lists.all.items c.new.result
    ∙ ap (λ xs. lists c.lists.all.items ++ xs ∷ []) c.new.ensures.items in
    kept_push (lists c.args.all.now.items) (lists c.lists.all.items) (lists c.push.new.self.items) c.lists.invariant is

pub returns-in_err-push-clause-kept : goal.returns-in_err-push-clause-kept
returns-in_err-push-clause-kept c = rw c.in_err-push.ensures.items c.lists.invariant
