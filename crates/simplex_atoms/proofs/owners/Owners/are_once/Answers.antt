-- The index tells one variable for each term.
use Rattle.std.proofs.Common.{nat_eq, subst}
use Rattle.std.specs.HashMap.{get}
use Rattle.simplex_atoms.specs.Owners.{OwnersView, AreOwnedOnce}
use Rattle.simplex_atoms.proofs.Owning.{inverse_once}
use Rattle.simplex_atoms.proofs.owners.Owners.are_once.Goals as goal

pub returns : goal.returns
returns c =
    let Once : OwnersView → Type 0 = λ v. AreOwnedOnce v.list in
    subst Once c.self.view_is (inverse_once (get nat_eq c.self.inside.numbers) c.self.inside.list.items c.self.invariant)
