-- A name that has a number is among them.
use Rattle.std.proofs.Common.{sym}
use Rattle.model_read.proofs.NamedWords.{is_among}
use Rattle.model_read.proofs.parameters.has_name.Goals as goal

pub returns-in-Some : goal.returns-in-Some
returns-in-Some c = sym (is_among c.args.names.now c.args.name.now c.in-Some.field-0 c.in-Some.ensures.0 c.in-Some.ensures.1)
