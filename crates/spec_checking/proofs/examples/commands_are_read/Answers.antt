-- Commands that cannot be read.
use Rattle.spec_checking.specs.ProofTexts.{unknown_premise_place, not_linear_place}
use Rattle.spec_checking.proofs.Verdicts.{unknown_premise_verdict, not_linear_verdict}
use Rattle.spec_checking.proofs.examples.commands_are_read.Goals as goal

pub returns : goal.returns
returns c = record { premise = (unknown_premise_verdict, unknown_premise_place); term = (not_linear_verdict, not_linear_place) }
