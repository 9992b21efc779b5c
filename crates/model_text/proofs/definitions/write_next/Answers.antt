-- A space, and an equality.
use Rattle.spec_text.specs.Printed.{printed}
use Rattle.spec_models.specs.Models.{equality_tree}
use Rattle.world_io.proofs.Chains.{next, fails, last}
use Rattle.term_walks.specs.Valuations.{value_meant}
use Rattle.model_text.proofs.Texts.{spaced_start}
use Rattle.model_text.proofs.definitions.write_next.Goals as goal

pub returns-in_err-write_all : goal.returns-in_err-write_all
returns-in_err-write_all g c = fails _ (spaced_start (printed (equality_tree c.args.k (value_meant c.args.symbols.now.sorts c.args.v))) _) c.in_err-write_all.ensures c.from_residual.ensures.0

pub returns : goal.returns
returns g c = last _ _ (next (spaced_start (printed (equality_tree c.args.k (value_meant c.args.symbols.now.sorts c.args.v))) _) c.in_ok-write_all.ensures) c.write_equality.ensures
