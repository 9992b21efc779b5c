-- That what is read is well sorted.
use Rattle.spec_reading.proofs.WellSorted.{text_is_sorted, text_keeps_sorts, definition_keeps_sorts}
use Rattle.spec_reading.proofs.readings_are_well_sorted.Goals as goal

pub returns-clause-term : goal.returns-clause-term
returns-clause-term c = text_is_sorted

pub returns-clause-made : goal.returns-clause-made
returns-clause-made c = text_keeps_sorts

pub returns-clause-defined : goal.returns-clause-defined
returns-clause-defined c = definition_keeps_sorts
