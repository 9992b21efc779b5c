-- Texts that are more than commands.
use Rattle.spec_checking.specs.ProofTexts.{unclosed_place, behind_list_place}
use Rattle.spec_checking.proofs.Verdicts.{unclosed_verdict, behind_list_verdict}
use Rattle.spec_checking.proofs.examples.texts_end_with_their_commands.Goals as goal

pub returns : goal.returns
returns c = record { unclosed = (unclosed_verdict, unclosed_place); behind_list = (behind_list_verdict, behind_list_place) }
