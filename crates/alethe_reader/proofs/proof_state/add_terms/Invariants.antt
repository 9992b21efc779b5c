-- The set has what it had, and the terms up to here.
use Rattle.std.proofs.Common.{◌++◌, take}
use Rattle.alethe_reader.specs.Parts.{HaveSameMembers}
use Rattle.alethe_reader.proofs.proof_state.add_terms.Given as goal

abbrev pub invariant-loop-id : goal.invariant-loop-id
invariant-loop-id l = HaveSameMembers (l.fn.set.keys ++ take l.id-index l.ids) l.set.keys
