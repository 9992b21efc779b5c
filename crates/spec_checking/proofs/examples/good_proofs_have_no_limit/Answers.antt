-- The script has four names, and without a limit all commands are right.
use Rattle.std.proofs.Common.{◌≡◌, length, Some, sym, ◌∙◌}
use Rattle.std.specs.Prelude.{Ok, Err}
use Rattle.spec_text.specs.declared.Fault.TheVariants as faults
use Rattle.spec_sorts.specs.Written.{trees_in}
use Rattle.spec_commands.specs.Checks.{term_limit}
use Rattle.spec_proofs.specs.declared.ProofKind.TheVariants.{Term}
use Rattle.spec_proofs.specs.Faults.{fault_at}
use Rattle.spec_checking.specs.Examples.{contradiction, known}
use Rattle.spec_checking.specs.ProofTexts.{refutation, refutation_has_no_room, listed_proof}
use Rattle.spec_checking.proofs.Good.{good}
use Rattle.spec_checking.proofs.Limits.{good_loose}
use Rattle.spec_checking.proofs.Verdicts.{refutation_fault}
use Rattle.spec_checking.proofs.examples.good_proofs_have_no_limit.Goals as goal

pub returns-clause-good : goal.returns-clause-good
returns-clause-good c = good_loose (Some term_limit) known (trees_in refutation) (good (Some term_limit) (length refutation) known (trees_in refutation) refutation_fault)

pub returns-clause-limited : goal.returns-clause-limited
returns-clause-limited c = λ g.
    let e : Err (fault_at 0 (Term faults.Full)) ≡ Ok g.commands = sym refutation_has_no_room ∙ g.read in
    cc

pub returns-clause-whole : goal.returns-clause-whole
returns-clause-whole c = c.accepted_proofs_are_good.ensures.whole contradiction listed_proof 1 c.refutation_is_accepted.ensures.accepted
