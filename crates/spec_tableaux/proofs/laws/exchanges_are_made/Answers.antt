use Rattle.spec_tableaux.proofs.Steps.{exchange_made, exchange_updated, one_exchange}
use Rattle.spec_tableaux.proofs.Returns.{says_pivot}
use Rattle.spec_tableaux.proofs.laws.exchanges_are_made.Goals as goal

pub returns : goal.returns
returns c d = record {
  pivot = says_pivot;
  made = λ s l ranges t b x w i a h. exchange_made s l ranges t b x w i a h.basic h.entry;
  one = λ s l ranges t u w b x i h. one_exchange s l ranges t u w b x i h.basic h.nonbasic h.entry;
  nonbasic_updated = exchange_updated;
}
