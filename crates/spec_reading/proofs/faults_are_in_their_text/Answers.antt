-- That faults are in their text.
use Rattle.spec_reading.proofs.Offsets.{text_fault_within, sort_fault_within}
use Rattle.spec_reading.proofs.faults_are_in_their_text.Goals as goal

pub returns-clause-term : goal.returns-clause-term
returns-clause-term c = text_fault_within

pub returns-clause-sort : goal.returns-clause-sort
returns-clause-sort c = sort_fault_within
