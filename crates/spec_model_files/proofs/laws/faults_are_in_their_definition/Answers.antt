-- Each step gives its fault at an offset of its text.
use Rattle.spec_model_files.proofs.Offsets.{value_fault, definition_fault}
use Rattle.spec_model_files.proofs.laws.faults_are_in_their_definition.Goals as goal

pub returns-clause-definition : goal.returns-clause-definition
returns-clause-definition c = definition_fault

pub returns-clause-value : goal.returns-clause-value
returns-clause-value c = value_fault
