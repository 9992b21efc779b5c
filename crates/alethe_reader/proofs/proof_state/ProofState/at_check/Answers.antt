-- What a check asks about, and no command.
use Rattle.std.proofs.Common.{refl}
use Rattle.alethe_reader.proofs.Entries.{known_first}
use Rattle.alethe_reader.proofs.proof_state.ProofState.at_check.Goals as goal

pub returns-clause-known : goal.returns-clause-known
returns-clause-known c limit k is assumed = known_first limit c.args.table c.args.stack c.args.assumed.now c.add_terms.new.set.keys k _ is assumed (rw (c.new-asserted.ensures.empty, c.as_slice.ensures) at c.in_ok-add_terms.ensures.added) c.in_ok-add_terms-2.ensures.added refl refl c.new.ensures c.new-2.ensures.items
