-- The tree that is printed is read, and has its value.
use Rattle.std.proofs.Common.{[], refl}
use Rattle.spec_text.proofs.Printing.{moved, printed_reads}
use Rattle.spec_models.specs.Values.{value_tree}
use Rattle.spec_models.proofs.Values.{value_means, value_spelled}
use Rattle.spec_models.proofs.Sorts.{sort_named_well}
use Rattle.spec_models.proofs.laws.printed_values_read_back.Goals as goal

pub returns : goal.returns
returns c = λ g s v d h. (moved 0 (value_tree v), printed_reads (value_tree v) (value_spelled s v (sort_named_well g s d) h), λ m. value_means m [] (λ n e. refl) s v h 0)
