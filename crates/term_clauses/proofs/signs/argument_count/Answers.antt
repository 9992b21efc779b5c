-- The node has as many.
use Rattle.std.proofs.Common.{sym, ◌∙◌}
use Rattle.term_core.specs.Tables.{term_at, shape_of}
use Rattle.term_clauses.proofs.Arguments.{arguments_count}
use Rattle.term_clauses.proofs.signs.argument_count.Goals as goal

pub returns : goal.returns
returns c = c.len.ensures.value ∙ sym (arguments_count c.args.table.now (shape_of c.node.result.now) (term_at c.args.table.now c.args.id) c.node.ensures.means)
