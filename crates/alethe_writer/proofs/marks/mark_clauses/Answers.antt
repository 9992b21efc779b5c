-- The terms of one clause more are marked, or it is not marked itself.
use Rattle.std.proofs.Common.{refl, arith}
use Rattle.alethe_writer.proofs.Printed.{first_none, first_either, first_end}
use Rattle.alethe_writer.proofs.marks.mark_clauses.Goals as goal

pub clauses-init : goal.clauses-init
clauses-init c = record { so_far = first_none c.args.table.now c.args.log.now c.args.support.now c.args.marks.now c.requires.as_many c.requires.none }

pub clauses-preserved : goal.clauses-preserved
clauses-preserved c = record { so_far = first_either c.args.table.now c.args.log.now c.args.support.now c.clauses.number _ c.clauses.marks c.mark_clause.new.marks refl c.clauses.invariant.so_far c.mark_clause.ensures }

pub returns : goal.returns
returns c = first_end c.args.table.now c.args.log.now c.args.support.now c.clauses.number c.clauses.marks (omega (arith, c.clauses-test.false)) c.clauses.invariant.so_far
