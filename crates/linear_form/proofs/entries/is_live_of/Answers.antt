-- One of another variable is none of the variable.
use Rattle.linear_form.proofs.Indexes.{lacks_other}
use Rattle.linear_form.proofs.entries.is_live_of.Goals as goal

pub returns-then-entry-id : goal.returns-then-entry-id
returns-then-entry-id c = lacks_other c.args.id.0 c.args.entry c.if-entry-id.true
