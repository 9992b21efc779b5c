-- The name of a parameter, and a value.
use Rattle.world_io.proofs.Chains.{next, fails, last}
use Rattle.term_walks.specs.Valuations.{value_meant}
use Rattle.model_text.proofs.Texts.{equality_start}
use Rattle.model_text.proofs.definitions.write_equality.Goals as goal

pub returns-in_err-write_numeral : goal.returns-in_err-write_numeral
returns-in_err-write_numeral g c = fails _ (equality_start c.args.k (value_meant c.args.symbols.now.sorts c.args.v) _) c.in_err-write_numeral.ensures c.from_residual.ensures.0

pub returns-in_err-write_value : goal.returns-in_err-write_value
returns-in_err-write_value g c = fails _ (next (equality_start c.args.k (value_meant c.args.symbols.now.sorts c.args.v) _) c.in_ok-write_numeral.ensures) c.in_err-write_value.ensures c.from_residual-in_err-write_value.ensures.0

pub returns : goal.returns
returns g c = last _ _ (next (next (equality_start c.args.k (value_meant c.args.symbols.now.sorts c.args.v) _) c.in_ok-write_numeral.ensures) c.in_ok-write_value.ensures) c.write_all.ensures
