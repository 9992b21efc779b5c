-- The index stays.
use Rattle.std.proofs.Common.{nat_eq, refl, sym, subst}
use Rattle.std.specs.HashMap.{get}
use Rattle.simplex_atoms.specs.Owners.{IsInverse}
use Rattle.simplex_atoms.proofs.Owning.{inverse_none}
use Rattle.simplex_atoms.proofs.owners.Owners.add_none.Goals as goal

pub invariant_of-self : goal.invariant_of-self
invariant_of-self c =
    let g = get nat_eq c.self.inside.numbers in
    subst (IsInverse g) (sym c.push_reserved.ensures.items) (inverse_none g g c.self.inside.list.items c.self.invariant (λ q. refl))
