-- What is found is kept.
use Rattle.std.proofs.Common.{sym, subst}
use Rattle.std.specs.Prelude.{Contains}
use Rattle.simplex_atoms.specs.Sums.{SumsView, key_meant, sum_by, IsNew}
use Rattle.simplex_atoms.proofs.Adding.{found, none_found}
use Rattle.simplex_atoms.proofs.sums.Sums.find.Goals as goal

pub returns-in-None : goal.returns-in-None
returns-in-None c =
    subst (λ (v : SumsView). IsNew v.list (key_meant c.args.key.now)) c.self.view_is (none_found c.args.key.now.entries c.self.inside.multiples.entries (sym c.in-None.ensures.value))

pub returns-in-Some : goal.returns-in-Some
returns-in-Some c =
    subst (λ (v : SumsView). Contains v.list (sum_by (key_meant c.args.key.now) c.in-Some.multiple.now)) c.self.view_is
    (found c.args.key.now.entries c.self.inside.multiples.entries c.in-Some.multiple.now (sym c.in-Some.ensures.value))
