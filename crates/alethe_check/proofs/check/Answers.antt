use Rattle.spec_commands.specs.Checks.{HasNoModel, term_limit}
use Rattle.spec_checking.specs.Accepted.{IsAccepted}
use Rattle.alethe_check.proofs.Answering.{accepted_gives}
use Rattle.alethe_check.proofs.check.Goals as goal

pub returns-clause-accepted : goal.returns-clause-accepted
returns-clause-accepted c =
    let script = c.args.script.now in
    let proof = c.args.proof.now in
    accepted_gives script c.args.at proof c.judge_texts.result (IsAccepted script c.args.at proof) c.judge_texts.ensures (c.accepted_proofs_have_no_fault.ensures script proof c.args.at).0

pub returns-clause-sound : goal.returns-clause-sound
returns-clause-sound c =
    let script = c.args.script.now in
    let proof = c.args.proof.now in
    accepted_gives script c.args.at proof c.judge_texts.result (HasNoModel term_limit script c.args.at) c.judge_texts.ensures (λ v. c.acceptance_is_sound.ensures script proof c.args.at ((c.accepted_proofs_have_no_fault.ensures script proof c.args.at).0 v))
