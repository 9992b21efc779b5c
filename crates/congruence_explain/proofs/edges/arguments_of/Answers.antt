-- That they are those of the term.
use Rattle.std.proofs.Common.{sym, ◌∙◌, ap}
use Rattle.term_core.specs.Tables.{term_at, clause_at, shape_of}
use Rattle.term_clauses.proofs.Arguments.{arguments_are}
use Rattle.congruence_explain.proofs.edges.arguments_of.Goals as goal

pub returns-clause-means : goal.returns-clause-means
returns-clause-means c =
    let t = c.args.table.now in
    ap (clause_at t) (c.in_ok-copy.ensures.items ∙ c.as_slice.ensures) ∙ sym (arguments_are t (shape_of c.node.result.now) (term_at t c.args.id) c.node.ensures.means)
