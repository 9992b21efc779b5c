-- No other ending is without a fault.
use Rattle.spec_model_files.proofs.Whole.{whole_file}
use Rattle.spec_model_files.proofs.laws.read_model_files_are_one_list.Goals as goal

pub returns : goal.returns
returns c = λ g text ds r. let w = whole_file g text ds r in (w.short, w.at, w.definitions, w.end, w.list, w.read)
