-- The parameters in their parentheses.
use Rattle.world_io.proofs.Chains.{next, fails, last}
use Rattle.term_core.specs.Symbols.{sorts_meant}
use Rattle.model_text.proofs.Texts.{parameters_start}
use Rattle.model_text.proofs.sorts.write_parameters.Goals as goal

pub returns-in_err-write_all : goal.returns-in_err-write_all
returns-in_err-write_all g c = fails _ (parameters_start (sorts_meant c.args.symbols.now.sorts c.args.sorts.now) _) c.in_err-write_all.ensures c.from_residual.ensures.0

pub returns-in_err-write_each : goal.returns-in_err-write_each
returns-in_err-write_each g c = fails _ (next (parameters_start (sorts_meant c.args.symbols.now.sorts c.args.sorts.now) _) c.in_ok-write_all.ensures) c.in_err-write_each.ensures c.from_residual-in_err-write_each.ensures.0

pub returns : goal.returns
returns g c = last _ _ (next (next (parameters_start (sorts_meant c.args.symbols.now.sorts c.args.sorts.now) _) c.in_ok-write_all.ensures) c.in_ok-write_each.ensures) c.write_all-2.ensures
