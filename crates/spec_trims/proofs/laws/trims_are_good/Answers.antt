-- By induction on the commands, with the names that are gone.
use Rattle.spec_checking.specs.Commands.{known_at}
use Rattle.spec_trims.proofs.Good.{trims_good, nothing_empty}
use Rattle.spec_trims.proofs.laws.trims_are_good.Goals as goal

pub returns : goal.returns
returns c = λ limit check ts g. trims_good limit (known_at check) ts (nothing_empty check) g
