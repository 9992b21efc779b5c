-- A proof whose commands are right.
use Rattle.spec_checking.specs.ProofTexts.{assumption_place}
use Rattle.spec_checking.proofs.Verdicts.{assumption_verdict}
use Rattle.spec_checking.proofs.examples.empty_clause_is_wanted.Goals as goal

pub returns : goal.returns
returns c = (assumption_verdict, assumption_place)
