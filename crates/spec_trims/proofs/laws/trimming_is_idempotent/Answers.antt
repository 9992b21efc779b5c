-- By induction on the commands.
use Rattle.spec_trims.proofs.Trimming.{whole}
use Rattle.spec_trims.proofs.laws.trimming_is_idempotent.Goals as goal

pub returns : goal.returns
returns c = λ ts. whole ts
