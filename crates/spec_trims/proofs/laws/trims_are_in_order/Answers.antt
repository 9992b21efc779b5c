-- By induction on the commands.
use Rattle.spec_trims.proofs.Trimming.{needed}
use Rattle.spec_trims.proofs.Texts.{trimmed_part}
use Rattle.spec_trims.proofs.laws.trims_are_in_order.Goals as goal

pub returns : goal.returns
returns c = record {
  part = trimmed_part;
  needed = needed;
}
