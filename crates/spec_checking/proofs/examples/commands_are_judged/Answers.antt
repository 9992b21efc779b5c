-- Commands that are not right.
use Rattle.spec_checking.specs.ProofTexts.{not_asserted_place, one_premise_place, dropped_literal_place}
use Rattle.spec_checking.proofs.Verdicts.{not_asserted_verdict, one_premise_verdict, dropped_literal_verdict}
use Rattle.spec_checking.proofs.examples.commands_are_judged.Goals as goal

pub returns : goal.returns
returns c = record {
  assumed = (not_asserted_verdict, not_asserted_place);
  resolved = (one_premise_verdict, one_premise_place);
  dropped = (dropped_literal_verdict, dropped_literal_place);
}
