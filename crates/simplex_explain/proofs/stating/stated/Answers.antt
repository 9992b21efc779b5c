-- The log is one over the table with the negations.
use Rattle.simplex_explain.proofs.stating.stated.Goals as goal

pub state-requires-clause-log : goal.state-requires-clause-log
state-requires-clause-log c = c.logs_hold_in_grown_tables.ensures.right c.args.table.now c.negations.new.table c.args.log.now c.requires.log c.negations.ensures.wider.terms
