-- The clause of a name is at the name's number.
use Rattle.alethe_reader.proofs.Entries.{find_none, find_numbered}
use Rattle.alethe_reader.proofs.premises.find.Goals as goal

pub returns-in-None : goal.returns-in-None
returns-in-None c = find_none c.args.state.now.table c.args.state.now.names _ _ c.in-None.ensures

pub returns-in-Some : goal.returns-in-Some
returns-in-Some c = find_numbered c.args.state.now.table c.args.state.now.names _ c.args.name.now c.in-Some.number c.no_name_twice.ensures c.requires.1.paired c.in-Some.ensures.0 c.in-Some.ensures.1
