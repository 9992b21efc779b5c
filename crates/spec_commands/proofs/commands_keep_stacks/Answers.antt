-- That commands leave what they should.
use Rattle.spec_commands.proofs.Kept.{empty_kept, step_kept, kept_values}
use Rattle.spec_commands.proofs.commands_keep_stacks.Goals as goal

pub returns-clause-first : goal.returns-clause-first
returns-clause-first c = empty_kept

pub returns-clause-next : goal.returns-clause-next
returns-clause-next c = step_kept

pub returns-clause-value : goal.returns-clause-value
returns-clause-value c = kept_values
