-- The lines between their parentheses.
use Rattle.term_walks.specs.Valuations.{tables_meant}
use Rattle.world_io.proofs.Chains.{next, fails, last}
use Rattle.model_text.proofs.Texts.{model_start}
use Rattle.model_text.proofs.models.write_model.Goals as goal

pub returns-in_err-write_all : goal.returns-in_err-write_all
returns-in_err-write_all g c = fails _ (model_start c.args.symbols.now.symbols (tables_meant c.args.symbols.now.sorts c.args.interp.now) _) c.in_err-write_all.ensures c.from_residual.ensures.0

pub returns-in_err-write_lines : goal.returns-in_err-write_lines
returns-in_err-write_lines g c = fails _ (next (model_start c.args.symbols.now.symbols (tables_meant c.args.symbols.now.sorts c.args.interp.now) _) c.in_ok-write_all.ensures) c.in_err-write_lines.ensures c.from_residual-in_err-write_lines.ensures.0

pub returns : goal.returns
returns g c = last _ _ (next (next (model_start c.args.symbols.now.symbols (tables_meant c.args.symbols.now.sorts c.args.interp.now) _) c.in_ok-write_all.ensures) c.in_ok-write_lines.ensures) c.write_all-2.ensures
