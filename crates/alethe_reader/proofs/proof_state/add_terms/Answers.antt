-- That the set has all terms.
use Rattle.std.proofs.lemmas.List.{take_all}
use Rattle.alethe_reader.proofs.Members.{none_taken, taken_by}
use Rattle.alethe_reader.proofs.proof_state.add_terms.Goals as goal

pub loop-id-init : goal.loop-id-init
loop-id-init c = none_taken c.args.set.now.keys

pub loop-id-preserved : goal.loop-id-preserved
loop-id-preserved c = taken_by c.args.set.now.keys c.args.ids.now c.loop-id.set.keys c.insert.new.self.keys c.loop-id.id-index (record { 0 = 0 }) c.loop-id-test.true c.loop-id.invariant c.in-Ok.ensures.keys

pub returns-clause-added : goal.returns-clause-added
returns-clause-added c = rw (take_all _ _ c.loop-id-test.false) at c.loop-id.invariant
