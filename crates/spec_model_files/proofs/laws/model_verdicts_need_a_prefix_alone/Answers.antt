-- The bytes that are read, and whether there are more, are reported by the prefix.
use Rattle.spec_model_files.proofs.Prefixes.{reading_of_prefix, verdict_of_prefixes}
use Rattle.spec_model_files.proofs.laws.model_verdicts_need_a_prefix_alone.Goals as goal

pub returns-clause-reading : goal.returns-clause-reading
returns-clause-reading c = reading_of_prefix

pub returns-clause-verdict : goal.returns-clause-verdict
returns-clause-verdict c = verdict_of_prefixes
