-- That an accepted proof is a good one.
use Rattle.spec_commands.specs.Checks.{term_limit}
use Rattle.spec_checking.proofs.laws.acceptance_is_sound.Goals as goal

pub returns : goal.returns
returns c = λ script proof k accepted. c.good_proofs_are_sound.ensures.whole term_limit script proof k (c.accepted_proofs_are_good.ensures.whole script proof k accepted)
