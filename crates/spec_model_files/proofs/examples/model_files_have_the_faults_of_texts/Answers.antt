-- Lists that do not end, or do not begin.
use Rattle.spec_model_files.specs.FileExamples.{list_open, list_closed}
use Rattle.spec_model_files.proofs.examples.model_files_have_the_faults_of_texts.Goals as goal

pub returns-clause-open : goal.returns-clause-open
returns-clause-open c = list_open

pub returns-clause-close : goal.returns-clause-close
returns-clause-close c = list_closed
