-- The sort of a name is at the name's number.
use Rattle.std.proofs.Common.{◌≡◌, None, Some, sym, ap, ◌∙◌, subst}
use Rattle.term_reader.specs.Scopes.{ScopeView, sort_under}
use Rattle.term_reader.proofs.NameStacks.{newest_none, newest_found}
use Rattle.term_reader.proofs.scope.Scope.sort.Goals as goal

pub returns-in-None : goal.returns-in-None
returns-in-None c =
    subst (λ (v : ScopeView). None ≡ sort_under v c.args.name.now) c.self.view_is (sym (newest_none c.self.inside.sort_names c.self.inside.sorts.items c.args.name.now c.in-None.ensures))

pub returns-in-Some : goal.returns-in-Some
returns-in-Some c =
    let s = c.index.result.now in
    let at = c.in-Some in
    subst (λ (v : ScopeView). Some s ≡ sort_under v c.args.name.now) c.self.view_is
    (ap (λ x. Some x) c.index.ensures ∙ sym (newest_found s c.self.inside.sort_names c.self.inside.sorts.items c.args.name.now at.place c.self.invariant.each_sort at.ensures))
