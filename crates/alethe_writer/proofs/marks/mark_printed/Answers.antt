-- The marks are of what is printed.
use Rattle.std.proofs.Common.{◌∙◌, sym}
use Rattle.alethe_writer.proofs.Printed.{printed_are}
use Rattle.alethe_writer.proofs.marks.mark_printed.Goals as goal

pub returns-clause-printed : goal.returns-clause-printed
returns-clause-printed c = λ n are. printed_are c.args.table.now c.args.log.now c.args.support.now c.mark_clauses.new.marks c.mark_arguments.new.marks n c.terms_are_closed.ensures c.ids_are_unique.ensures c.requires.log c.requires.short c.mark_clauses.ensures c.mark_arguments.ensures are

pub returns-clause-as_many : goal.returns-clause-as_many
returns-clause-as_many c = c.mark_arguments.ensures.same_length ∙ c.mark_clauses.ensures.as_many ∙ sym c.requires.as_many
