-- The lines are read one after the other, each as its symbol's table.
use Rattle.std.specs.Prelude.{refl}
use Rattle.spec_model_files.proofs.PrintedFiles.{text_read, same_tables}
use Rattle.spec_model_files.proofs.laws.printed_models_read_back.Goals as goal

pub returns : goal.returns
returns c = λ g i sound p. (_, (_, text_read g i sound p, refl), same_tables g i sound p)
