-- Only equal terms are congruent where nothing is held.
use Rattle.spec_equality.proofs.Apart.{itself_alone}
use Rattle.spec_equality.proofs.congruence_laws.nothing_follows_from_nothing.Goals as goal

pub returns : goal.returns
returns c = itself_alone
