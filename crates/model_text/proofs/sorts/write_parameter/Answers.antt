-- The name of a parameter, and its sort.
use Rattle.world_io.proofs.Chains.{next, fails, last}
use Rattle.term_core.specs.Symbols.{sort_meant}
use Rattle.model_text.proofs.Texts.{parameter_start}
use Rattle.model_text.proofs.sorts.write_parameter.Goals as goal

pub returns-in_err-write_numeral : goal.returns-in_err-write_numeral
returns-in_err-write_numeral g c = fails _ (parameter_start c.args.k (sort_meant c.args.symbols.now.sorts c.args.sort) _ _ c.opening.ensures) c.in_err-write_numeral.ensures c.from_residual.ensures.0

pub returns-in_err-write_sort : goal.returns-in_err-write_sort
returns-in_err-write_sort g c = fails _ (next (parameter_start c.args.k (sort_meant c.args.symbols.now.sorts c.args.sort) _ _ c.opening.ensures) c.in_ok-write_numeral.ensures) c.in_err-write_sort.ensures c.from_residual-in_err-write_sort.ensures.0

pub returns : goal.returns
returns g c = last _ _ (next (next (parameter_start c.args.k (sort_meant c.args.symbols.now.sorts c.args.sort) _ _ c.opening.ensures) c.in_ok-write_numeral.ensures) c.in_ok-write_sort.ensures) c.write_all.ensures
