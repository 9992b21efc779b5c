-- A name's latest place tells whether it is there from a place on.
use Rattle.std.proofs.Common.{◌≡◌, false, drop, sym, subst}
use Rattle.std.specs.Prelude.{nat_le}
use Rattle.spec_text.specs.Bytes.{among}
use Rattle.sort_check.specs.Bindings.{BindingsView}
use Rattle.sort_check.proofs.Binding.{none_from, latest_from}
use Rattle.sort_check.proofs.bindings.Bindings.has_from.Goals as goal

pub returns-in-None : goal.returns-in-None
returns-in-None c = subst (λ (v : BindingsView). false ≡ among (drop c.args.from v.names) c.args.name.now) c.self.view_is (sym (none_from c.self.inside.names c.args.name.now c.args.from c.in-None.ensures))

pub returns-in-Some : goal.returns-in-Some
returns-in-Some c = subst (λ (v : BindingsView). nat_le c.args.from c.in-Some.place ≡ among (drop c.args.from v.names) c.args.name.now) c.self.view_is (latest_from c.self.inside.names c.args.name.now c.args.from c.in-Some.place c.in-Some.ensures)
