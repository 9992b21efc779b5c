-- What such an equality has besides itself are subterms of the terms.
use Rattle.spec_interfaces.proofs.Apart.{atom_apart}
use Rattle.spec_interfaces.proofs.laws.other_atoms_stand_apart.Goals as goal

pub returns : goal.returns
returns c p t each = atom_apart p each t
