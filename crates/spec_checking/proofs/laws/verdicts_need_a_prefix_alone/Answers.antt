-- The bytes that are read, and whether there are more, are reported by the prefix.
use Rattle.spec_checking.proofs.Prefixes.{verdict_of_prefixes}
use Rattle.spec_checking.proofs.laws.verdicts_need_a_prefix_alone.Goals as goal

pub returns : goal.returns
returns c = verdict_of_prefixes
