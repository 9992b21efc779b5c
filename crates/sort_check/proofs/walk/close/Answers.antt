-- The innermost row was read.
use Rattle.term_reader.proofs.Tables.{keeps_same}
use Rattle.sort_check.proofs.Widening.{widens_same}
use Rattle.sort_check.proofs.walk.close.Goals as goal

pub returns-in-Applies-clause-grows : goal.returns-in-Applies-clause-grows
returns-in-Applies-clause-grows c = record { keeps = c.close_applied.ensures.keeps; widens = widens_same c.args.scope.now }

pub returns-in-Binds-clause-grows : goal.returns-in-Binds-clause-grows
returns-in-Binds-clause-grows c = record { keeps = keeps_same c.args.table.now; widens = widens_same c.args.scope.now }

pub returns-in-Binds-clause-less : goal.returns-in-Binds-clause-less
returns-in-Binds-clause-less c = c.close_binding.ensures.less c.args.table.now c.args.scope.now

pub returns-in-Body-clause-grows : goal.returns-in-Body-clause-grows
returns-in-Body-clause-grows c = record { keeps = keeps_same c.args.table.now; widens = widens_same c.args.scope.now }

pub returns-in-Body-clause-less : goal.returns-in-Body-clause-less
returns-in-Body-clause-less c = c.close_body.ensures.less c.args.table.now c.args.scope.now

pub returns-in-Annotates-clause-grows : goal.returns-in-Annotates-clause-grows
returns-in-Annotates-clause-grows c = record { keeps = keeps_same c.args.table.now; widens = c.close_annotated.ensures.widens }
