-- A node has arguments where its term has.
use Rattle.std.proofs.Common.{not, sym, ap, ◌∙◌}
use Rattle.spec_proof_texts.specs.Plans.{is_compound}
use Rattle.term_core.specs.Tables.{shape_of}
use Rattle.alethe_writer.proofs.TermNumbers.{compound_shape}
use Rattle.alethe_writer.proofs.plans.has_arguments.Goals as goal

pub returns : goal.returns
returns c = ap not c.is_empty.ensures ∙ compound_shape c.args.table.now (shape_of c.node.result.now) ∙ ap is_compound (sym c.node.ensures.means)
