use Rattle.std.proofs.Common.{refl}
use Rattle.alethe_reader.proofs.Entries.{known_more}
use Rattle.alethe_reader.proofs.proof_state.ProofState.add.Goals as goal

pub returns-clause-added : goal.returns-clause-added
returns-clause-added c k is = known_more c.args.self.now _ k c.args.name.now c.args.clause is c.requires.there refl refl refl c.in_ok-add.ensures.added c.in_ok-push.ensures.items
