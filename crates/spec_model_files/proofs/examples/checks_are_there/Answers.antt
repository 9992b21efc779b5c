-- A script without a check.
use Rattle.spec_model_files.specs.FileExamples.{no_check}
use Rattle.spec_model_files.proofs.examples.checks_are_there.Goals as goal

pub returns : goal.returns
returns c = no_check
