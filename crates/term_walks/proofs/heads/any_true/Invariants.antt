-- What is left of the values answers for all.
use Rattle.std.proofs.Common.{◌≡◌, List, drop}
use Rattle.spec_text.specs.Bytes.{Name}
use Rattle.spec_sorts.specs.Values.{any_true}
use Rattle.term_walks.specs.Valuations.{values_meant}
use Rattle.term_walks.proofs.heads.any_true.Given as goal

abbrev pub invariant-values : goal.invariant-values
invariant-values l = record { same : (sorts : List Name) → any_true (values_meant sorts (drop l.value-index l.values)) ≡ any_true (values_meant sorts l.values) }
