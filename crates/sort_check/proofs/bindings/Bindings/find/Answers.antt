-- The term of a bound name is at the name's latest place.
use Rattle.std.proofs.Common.{◌≡◌, None, Some, sym, ap, ◌∙◌, subst}
use Rattle.spec_sorts.specs.Theory.{look_up}
use Rattle.term_reader.specs.NameStacks.{newest}
use Rattle.term_reader.proofs.NameStacks.{newest_none, newest_found}
use Rattle.sort_check.specs.Bindings.{BindingsView}
use Rattle.sort_check.proofs.bindings.Bindings.find.Goals as goal

pub returns-in-None : goal.returns-in-None
returns-in-None c =
    subst (λ (v : BindingsView). None ≡ look_up (newest v.names v.terms) c.args.name.now) c.self.view_is (sym (newest_none c.self.inside.names c.self.inside.terms.items c.args.name.now c.in-None.ensures))

pub returns-in-Some : goal.returns-in-Some
returns-in-Some c =
    let id = c.index.result.now in
    subst (λ (v : BindingsView). Some id ≡ look_up (newest v.names v.terms) c.args.name.now) c.self.view_is
    (ap (λ x. Some x) c.index.ensures ∙ sym (newest_found id c.self.inside.names c.self.inside.terms.items c.args.name.now c.in-Some.place c.self.invariant c.in-Some.ensures))
