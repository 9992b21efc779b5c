-- The set has the terms that the check asks about.
use Rattle.alethe_reader.proofs.Members.{asked_by}
use Rattle.alethe_reader.proofs.proof_state.ProofState.is_asserted.Goals as goal

pub returns : goal.returns
returns c k is = asked_by c.args.self.now.table c.args.self.now.asserted.keys k.asserted c.args.id _ c.ids_are_unique.ensures c.requires.there is.inside is.asked is.asserted c.contains.ensures
